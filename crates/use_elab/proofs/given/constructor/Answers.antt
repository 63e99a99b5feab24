use Rattle.elab_context.proofs.Reading.{context_later}
use Rattle.elab_context.proofs.of_elab_steps.Growing.{grows_on, type_later}
use Rattle.use_elab.proofs.Uses.{constructor_is, written_of}
use Rattle.use_elab.proofs.given.constructor.Goals as goal

pub used_at-requires-clause-context : goal.used_at-requires-clause-context
used_at-requires-clause-context c =
    context_later c.args.state.now c.write_all.new.state c.args.context.now
    (grows_on c.args.state.now c.at_fresh.new.state c.write_all.new.state c.in_ok-at.ensures.grows c.in_ok-types.ensures.grows) c.requires.context

pub used_at-requires-clause-ty : goal.used_at-requires-clause-ty
used_at-requires-clause-ty c = type_later c.at_fresh.new.state c.write_all.new.state c.in_ok-at.at.ty c.in_ok-types.ensures.grows c.in_ok-at.ensures.is

pub returns : goal.returns
returns c place x e =
    constructor_is c.args.state.now c.at_fresh.new.state c.write_all.new.state c.used_at.new.state c.args.context.now place x c.args.scheme c.args.number c.args.name c.program_name.result
    c.in_ok-at.at c.in_ok-types.types.items c.in_ok-made.made c.requires.context e c.requires.held c.in_ok-at.ensures c.in_ok-types.ensures.grows
    (written_of c.write_all.new.state c.args.context.now c.in_ok-at.at.images.items c.deref.result.now c.in_ok-types.types.items c.deref.ensures.value c.in_ok-types.ensures.are)
    c.program_name.ensures c.in_ok-made.ensures.grows c.in_ok-made.ensures.ty c.in_ok-made.ensures.tree
