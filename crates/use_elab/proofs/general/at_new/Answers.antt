use Rattle.std.proofs.Common.{◌≡◌, List, map, true, sym, ap, subst, ◌∙◌}
use Rattle.std.specs.List.{AllByRecursion}
use Rattle.ty_core.specs.Marks.{is_inhabited}
use Rattle.ty_core.specs.declared.mark.Mark.{Mark}
use Rattle.ty_core.specs.declared.scheme.Quantified.{Quantified}
use Rattle.ty_solve.specs.Substitution.{sub}
use Rattle.ir_poly.specs.Types.{changed}
use Rattle.use_elab.specs.Fresh.{images_of}
use Rattle.elab_context.specs.of_elab_steps.Growing.{Always, HasGeneral}
use Rattle.elab_context.specs.of_elab_steps.World.{type_of}
use Rattle.elab_context.proofs.of_elab_steps.Growing.{general_later}
use Rattle.use_elab.proofs.Uses.{all-marks, at_new_is}
use Rattle.use_elab.proofs.general.at_new.Goals as goal

pub fresh_types-requires-clause-inhabited : goal.fresh_types-requires-clause-inhabited
fresh_types-requires-clause-inhabited c =
    subst (AllByRecursion (λ (m : Mark). is_inhabited m ≡ true)) (sym (c.deref-2.ensures.value ∙ c.in_ok-marks.ensures ∙ ap (map (λ (q : Quantified). q.mark)) (c.deref.ensures.value ∙ c.in_ok-parameters.ensures)))
    (all-marks (λ m. is_inhabited m ≡ true) _ c.requires.list.inhabited)

pub put_with-requires-clause-body : goal.put_with-requires-clause-body
put_with-requires-clause-body c =
    subst (λ qs. HasGeneral c.fresh_types.new.state qs c.args.ty) (sym (c.deref-3.ensures.value ∙ c.in_ok-parameters.ensures))
    (general_later c.args.state.now c.fresh_types.new.state _ c.args.ty c.in_ok-images.ensures.grows c.requires.ty)

pub returns : goal.returns
returns c =
    at_new_is c.args.state.now c.fresh_types.new.state c.put_with.new.state c.args.context.now c.args.list c.args.ty c.in_ok-parameters.parameters.items c.deref-2.result.now c.limit.result _
    c.requires.list c.in_ok-parameters.ensures (c.deref-2.ensures.value ∙ c.in_ok-marks.ensures ∙ ap (map (λ (q : Quantified). q.mark)) c.deref.ensures.value) c.limit.ensures
    c.in_ok-images.ensures.grows c.in_ok-images.ensures.are c.in_ok-images.ensures.fresh c.in_ok-images.ensures.next c.in_ok-ty.ensures.grows c.in_ok-ty.ensures.is
    (subst (λ (l : List _). Always c.put_with.new.state (λ W. type_of W c.in_ok-ty.ty ≡ sub (changed c.in_ok-parameters.parameters.items (images_of W l) W.value) (W.raw c.args.ty)))
    c.deref-4.ensures.value
    (subst (λ (l : List Quantified). Always c.put_with.new.state (λ W. type_of W c.in_ok-ty.ty ≡ sub (changed l (images_of W c.deref-4.result.now) W.value) (W.raw c.args.ty)))
    c.deref-3.ensures.value c.in_ok-ty.ensures.has))
    c.in_ok-ty.ensures.next
