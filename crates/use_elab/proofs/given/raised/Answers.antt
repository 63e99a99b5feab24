use Rattle.elab_context.proofs.Reading.{context_later}
use Rattle.use_elab.proofs.Uses.{raised_is}
use Rattle.use_elab.proofs.given.raised.Goals as goal

pub atom-requires-clause-context : goal.atom-requires-clause-context
atom-requires-clause-context c = context_later c.args.state.now c.exception_alone.new.state c.args.context.now c.in_ok-ty.ensures.grows c.requires.context

pub returns : goal.returns
returns c place x e =
    raised_is c.args.state.now c.exception_alone.new.state c.atom.new.state c.args.context.now place x c.args.number c.in_ok-ty.ty c.args.argument c.in_ok-made.made c.requires.context e
    c.in_ok-ty.ensures.grows c.in_ok-ty.ensures.is c.in_ok-ty.ensures.has c.in_ok-made.ensures.grows c.in_ok-made.ensures.ty c.in_ok-made.ensures.tree
