use Rattle.std.proofs.Common.{◌≡◌, List, length, true, sym, ap, subst, ◌∙◌}
use Rattle.std.specs.List.{AllByRecursion}
use Rattle.ty_core.specs.Marks.{is_inhabited}
use Rattle.ty_core.specs.declared.mark.Mark.{Mark}
use Rattle.ty_table.specs.TypeAt.{type_at}
use Rattle.ty_solve.specs.Substitution.{is_below}
use Rattle.ty_core.specs.Statics.{replace}
use Rattle.ir_poly.specs.Types.{nth_type}
use Rattle.use_elab.specs.Fresh.{images_of}
use Rattle.elab_context.specs.of_elab_state.States.{types_in}
use Rattle.elab_context.specs.of_elab_steps.Growing.{Always}
use Rattle.elab_context.specs.of_elab_steps.World.{type_of}
use Rattle.elab_context.proofs.Reading.{context_later}
use Rattle.use_elab.proofs.Uses.{at_fresh_is}
use Rattle.use_elab.proofs.given.at_fresh.Goals as goal

pub fresh_types-requires-clause-inhabited : goal.fresh_types-requires-clause-inhabited
fresh_types-requires-clause-inhabited c =
    let found = c.at-found.result.now in
    subst (AllByRecursion (λ (m : Mark). is_inhabited m ≡ true)) (sym c.deref.ensures.value)
    (c.requires.context.schemes c.args.scheme found c.at-found.ensures).inhabited

pub instance_with-requires-clause-body : goal.instance_with-requires-clause-body
instance_with-requires-clause-body c =
    let found = c.at-found.result.now in
    ((context_later c.args.state.now c.fresh_types.new.state c.args.context.now c.in_ok-images.ensures.grows c.requires.context).schemes c.args.scheme found
    c.at-found.ensures).held

pub instance_with-requires-clause-closed : goal.instance_with-requires-clause-closed
instance_with-requires-clause-closed c =
    let found = c.at-found.result.now in
    subst (λ n. is_below n (type_at (types_in c.fresh_types.new.state) found.body) ≡ true)
    (sym (ap length c.deref-2.ensures.value ∙ c.in_ok-images.ensures.count ∙ ap length c.deref.ensures.value))
    ((context_later c.args.state.now c.fresh_types.new.state c.args.context.now c.in_ok-images.ensures.grows c.requires.context).schemes c.args.scheme found
    c.at-found.ensures).closed

pub returns : goal.returns
returns c =
    let found = c.at-found.result.now in
    at_fresh_is c.args.state.now c.fresh_types.new.state c.instance_with.new.state c.args.context.now c.args.scheme found c.deref.result.now c.limit.result _
    c.at-found.ensures c.deref.ensures.value c.limit.ensures c.in_ok-images.ensures.grows
    c.in_ok-images.ensures.are c.in_ok-images.ensures.fresh c.in_ok-images.ensures.next c.in_ok-ty.ensures.grows c.in_ok-ty.ensures.is
    (subst (λ (l : List _). Always c.instance_with.new.state (λ W. type_of W c.in_ok-ty.ty ≡ replace (nth_type (images_of W l)) (W.raw found.body))) c.deref-2.ensures.value c.in_ok-ty.ensures.has)
    c.in_ok-ty.ensures.next
