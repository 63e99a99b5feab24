use Rattle.std.proofs.Common.{[], map, ap, if◌then◌else◌, ◌∙◌}
use Rattle.elab_context.specs.of_elab_typed.Numbers.{type_as}
use Rattle.use_elab.specs.Fresh.{images_of}
use Rattle.elab_context.proofs.Reading.{context_later}
use Rattle.elab_context.proofs.of_elab_steps.Growing.{grows_on, type_later}
use Rattle.use_elab.proofs.Uses.{general_is}
use Rattle.use_elab.proofs.general.general.Goals as goal

pub types_used-requires-clause-context : goal.types_used-requires-clause-context
types_used-requires-clause-context c = context_later c.args.state.now c.at_new.new.state c.args.context.now c.in_ok-at.ensures.grows c.requires.context

pub used_at-requires-clause-context : goal.used_at-requires-clause-context
used_at-requires-clause-context c =
    context_later c.args.state.now c.types_used.new.state c.args.context.now
    (grows_on c.args.state.now c.at_new.new.state c.types_used.new.state c.in_ok-at.ensures.grows c.in_ok-types.ensures.grows) c.requires.context

pub used_at-requires-clause-ty : goal.used_at-requires-clause-ty
used_at-requires-clause-ty c = type_later c.at_new.new.state c.types_used.new.state c.in_ok-at.at.ty c.in_ok-types.ensures.grows c.in_ok-at.ensures.is

pub returns : goal.returns
returns c place x e =
    let C = c.args.context.now in
    general_is c.args.state.now c.at_new.new.state c.types_used.new.state c.used_at.new.state C place x c.args.list c.args.ty c.args.number c.args.has c.in_ok-at.at
    c.in_ok-types.types.items c.in_ok-made.made c.requires.context e c.in_ok-at.ensures c.in_ok-types.ensures.grows
    (λ W w. c.in_ok-types.ensures.are W w ∙ ap (λ l. if c.args.has then map (type_as (W.naming C.naming)) (images_of W l) else []) c.deref.ensures.value)
    c.in_ok-made.ensures.grows c.in_ok-made.ensures.ty c.in_ok-made.ensures.tree
