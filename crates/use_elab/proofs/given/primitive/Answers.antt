use Rattle.std.proofs.Common.{ap, ◌∙◌}
use Rattle.ir_poly.specs.Types.{nth_type}
use Rattle.use_elab.specs.Fresh.{images_of}
use Rattle.elab_context.proofs.Reading.{context_later}
use Rattle.elab_context.proofs.of_elab_steps.Growing.{grows_on, type_later}
use Rattle.use_elab.proofs.Uses.{primitive_is}
use Rattle.use_elab.proofs.given.primitive.Goals as goal

pub used_at-requires-clause-context : goal.used_at-requires-clause-context
used_at-requires-clause-context c =
    context_later c.args.state.now c.write_all.new.state c.args.context.now
    (grows_on c.args.state.now c.first_or_unit.new.state c.write_all.new.state
    (grows_on c.args.state.now c.at_fresh.new.state c.first_or_unit.new.state c.in_ok-at.ensures.grows c.in_ok-parameter.ensures.grows) c.in_ok-types.ensures.grows) c.requires.context

pub used_at-requires-clause-ty : goal.used_at-requires-clause-ty
used_at-requires-clause-ty c =
    type_later c.at_fresh.new.state c.write_all.new.state c.in_ok-at.at.ty
    (grows_on c.at_fresh.new.state c.first_or_unit.new.state c.write_all.new.state c.in_ok-parameter.ensures.grows c.in_ok-types.ensures.grows) c.in_ok-at.ensures.is

pub returns : goal.returns
returns c place x e =
    primitive_is c.args.state.now c.at_fresh.new.state c.first_or_unit.new.state c.write_all.new.state c.used_at.new.state c.args.context.now place x c.args.scheme c.in_ok-parameter.parameter
    c.args.primitive c.in_ok-at.at c.in_ok-types.types.items c.in_ok-made.made c.requires.context e c.requires.held c.in_ok-at.ensures c.in_ok-parameter.ensures.grows
    (λ W w. c.in_ok-parameter.ensures.has W w ∙ ap (λ l. nth_type (images_of W l) 0) c.deref.ensures.value)
    c.in_ok-types.ensures.grows c.in_ok-types.ensures.are c.in_ok-made.ensures.grows c.in_ok-made.ensures.ty c.in_ok-made.ensures.tree
