use Rattle.std.proofs.Common.{refl, sym, ap, ap₂, ◌++◌, ◌∙◌}
use Rattle.std.specs.Prelude.{flat_map}
use Rattle.scoped_tyvars.specs.Unguarded.{field_ty_tyvars, ty_part_tyvars, ty_tyvars}
use Rattle.scoped_tyvars.proofs.Listing.{both-parts, if-ok, list-ends, list-next}
use Rattle.scoped_tyvars.proofs.Nodes.{ty-Arrow, ty-Con, ty-Product, ty-Record, ty-Var}
use Rattle.scoped_tyvars.proofs.tys.+types.Goals as goal

pub of_fields-loop-i-init : goal.of_fields-loop-i-init
of_fields-loop-i-init t c = refl

pub of_fields-loop-i-preserved : goal.of_fields-loop-i-preserved
of_fields-loop-i-preserved t c =
    list-next field_ty_tyvars c.args.fields.now c.loop-i.i c.index-fields-i.result c.loop-i.found.items _ _ c.loop-i-test.true c.index-fields-i.is c.loop-i.invariant c.in_ok-of_ty.ensures

pub of_fields-returns : goal.of_fields-returns
of_fields-returns t c = list-ends field_ty_tyvars c.args.fields.now c.loop-i.i c.loop-i.found.items _ c.loop-i-test.false c.loop-i.invariant

pub of_tys-loop-i-init : goal.of_tys-loop-i-init
of_tys-loop-i-init t c = refl

pub of_tys-loop-i-preserved : goal.of_tys-loop-i-preserved
of_tys-loop-i-preserved t c =
    list-next ty_tyvars c.args.tys.now c.loop-i.i c.index-tys-i.result c.loop-i.found.items _ _ c.loop-i-test.true c.index-tys-i.is c.loop-i.invariant c.in_ok-of_ty.ensures

pub of_tys-returns : goal.of_tys-returns
of_tys-returns t c = list-ends ty_tyvars c.args.tys.now c.loop-i.i c.loop-i.found.items _ c.loop-i-test.false c.loop-i.invariant

pub of_parts-loop-i-init : goal.of_parts-loop-i-init
of_parts-loop-i-init t c = refl

pub of_parts-loop-i-preserved : goal.of_parts-loop-i-preserved
of_parts-loop-i-preserved t c =
    list-next ty_part_tyvars c.args.parts.now c.loop-i.i c.index-parts-i.result c.loop-i.found.items _ _ c.loop-i-test.true c.index-parts-i.is c.loop-i.invariant c.in_ok-of_ty.ensures

pub of_parts-returns : goal.of_parts-returns
of_parts-returns t c = list-ends ty_part_tyvars c.args.parts.now c.loop-i.i c.loop-i.found.items _ c.loop-i-test.false c.loop-i.invariant

pub of_ty-returns-in-Record : goal.of_ty-returns-in-Record
of_ty-returns-in-Record t c = if-ok c.of_fields.result (λ u k. k ∙ ap (λ l. c.args.found.now.items ++ l) (ap (flat_map field_ty_tyvars) c.deref.ensures.value ∙ sym (ty-Record c.args.ty.now c.in-Record.field-0 c.in-Record.fields c.in-Record.is))) c.of_fields.ensures

pub of_ty-returns-in-Con : goal.of_ty-returns-in-Con
of_ty-returns-in-Con t c = if-ok c.of_tys.result (λ u k. k ∙ ap (λ l. c.args.found.now.items ++ l) (ap (flat_map ty_tyvars) c.deref-in-Con.ensures.value ∙ sym (ty-Con c.args.ty.now c.in-Con.field-0 c.in-Con.arguments c.in-Con.field-2 c.in-Con.field-3 c.in-Con.is))) c.of_tys.ensures

pub of_ty-returns-in-Product : goal.of_ty-returns-in-Product
of_ty-returns-in-Product t c = if-ok c.of_tys-in-Product.result (λ u k. k ∙ ap (λ l. c.args.found.now.items ++ l) (ap (flat_map ty_tyvars) c.deref-in-Product.ensures.value ∙ sym (ty-Product c.args.ty.now c.in-Product.field-0 c.in-Product.parts c.in-Product.is))) c.of_tys-in-Product.ensures

pub of_ty-returns-in_ok-of_ty-in-Arrow : goal.of_ty-returns-in_ok-of_ty-in-Arrow
of_ty-returns-in_ok-of_ty-in-Arrow t c = if-ok c.of_parts.result (λ u k. both-parts c.args.found.now.items _ _ _ _ _ c.in_ok-of_ty-in-Arrow.ensures k (ap₂ (λ a b. a ++ b) (ap ty_tyvars c.deref-in-Arrow.ensures) (ap (flat_map ty_part_tyvars) c.deref-in-Arrow-2.ensures.value) ∙ sym (ty-Arrow c.args.ty.now c.in-Arrow.field-0 c.in-Arrow.first c.in-Arrow.parts c.in-Arrow.is))) c.of_parts.ensures

pub of_ty-returns-in_ok-push-in-Var : goal.of_ty-returns-in_ok-push-in-Var
of_ty-returns-in_ok-push-in-Var t c =
    c.in_ok-push-in-Var.ensures.items ∙ ap (λ l. c.args.found.now.items ++ l) (sym (ty-Var c.args.ty.now c.in-Var.field-0 c.in-Var.tyvar c.in-Var.is))
