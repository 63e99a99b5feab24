use Rattle.elab_context.proofs.Reading.{context_later}
use Rattle.use_elab.proofs.Uses.{initial_is}
use Rattle.use_elab.proofs.given.initial.Goals as goal

pub atom-requires-clause-context : goal.atom-requires-clause-context
atom-requires-clause-context c = context_later c.args.state.now c.packets.new.state c.args.context.now c.in_ok-ty.ensures.grows c.requires.context

pub returns : goal.returns
returns c place x s e =
    initial_is c.args.state.now c.packets.new.state c.atom.new.state c.args.context.now place x s c.args.number c.in_ok-ty.ty c.in_ok-made.made c.requires.context e
    c.in_ok-ty.ensures.grows c.in_ok-ty.ensures.is c.in_ok-ty.ensures.has c.in_ok-made.ensures.grows c.in_ok-made.ensures.ty c.in_ok-made.ensures.tree
