use Rattle.std.proofs.Common.{ap, ap₂, ◌++◌, ◌∙◌}
use Rattle.std.specs.Prelude.{flat_map, map}
use Rattle.restrictions.specs.Nodes.{field_ty_places, ty_part_places, ty_places, unless_once}
use Rattle.restrictions.proofs.Standing.{adds-both, adds-for, adds-none, comes-first, comes-last, comes-next, if-ok, stand-are}
use Rattle.restrictions.proofs.TyNodes.{ty-Arrow, ty-Con, ty-Product, ty-Record, ty-Var}
use Rattle.restrictions.proofs.tys.+types.Goals as goal

pub of_fields-loop-i-init : goal.of_fields-loop-i-init
of_fields-loop-i-init t c = comes-first field_ty_places c.args.fields.now c.args.found.now.items

pub of_fields-loop-i-preserved : goal.of_fields-loop-i-preserved
of_fields-loop-i-preserved t c =
    comes-next field_ty_places c.args.fields.now c.loop-i.i c.index-fields-i.result c.args.found.now.items c.loop-i.found.items _ c.loop-i-test.true c.index-fields-i.is c.loop-i.invariant
    c.in_ok-of_ty.ensures

pub of_fields-returns : goal.of_fields-returns
of_fields-returns t c = comes-last field_ty_places c.args.fields.now c.loop-i.i c.args.found.now.items c.loop-i.found.items c.loop-i-test.false c.loop-i.invariant

pub of_tys-loop-i-init : goal.of_tys-loop-i-init
of_tys-loop-i-init t c = comes-first ty_places c.args.tys.now c.args.found.now.items

pub of_tys-loop-i-preserved : goal.of_tys-loop-i-preserved
of_tys-loop-i-preserved t c =
    comes-next ty_places c.args.tys.now c.loop-i.i c.index-tys-i.result c.args.found.now.items c.loop-i.found.items _ c.loop-i-test.true c.index-tys-i.is c.loop-i.invariant
    c.in_ok-of_ty.ensures

pub of_tys-returns : goal.of_tys-returns
of_tys-returns t c = comes-last ty_places c.args.tys.now c.loop-i.i c.args.found.now.items c.loop-i.found.items c.loop-i-test.false c.loop-i.invariant

pub of_parts-loop-i-init : goal.of_parts-loop-i-init
of_parts-loop-i-init t c = comes-first ty_part_places c.args.parts.now c.args.found.now.items

pub of_parts-loop-i-preserved : goal.of_parts-loop-i-preserved
of_parts-loop-i-preserved t c =
    comes-next ty_part_places c.args.parts.now c.loop-i.i c.index-parts-i.result c.args.found.now.items c.loop-i.found.items _ c.loop-i-test.true c.index-parts-i.is c.loop-i.invariant
    c.in_ok-of_ty.ensures

pub of_parts-returns : goal.of_parts-returns
of_parts-returns t c = comes-last ty_part_places c.args.parts.now c.loop-i.i c.args.found.now.items c.loop-i.found.items c.loop-i-test.false c.loop-i.invariant

pub of_ty-returns-in-Var : goal.of_ty-returns-in-Var
of_ty-returns-in-Var t c = adds-none c.args.found.now.items _ (ty-Var c.args.ty.now c.in-Var.field-0 c.in-Var.field-1 c.in-Var.is)

pub of_ty-returns-in_ok-of_fields-in-Record : goal.of_ty-returns-in_ok-of_fields-in-Record
of_ty-returns-in_ok-of_fields-in-Record t c =
    if-ok c.check_fields.result
    (λ u k. adds-both c.args.found.now.items _ _ _ _ _ c.in_ok-of_fields-in-Record.ensures k (stand-are _ _ (ap₂ (λ a b. a ++ unless_once b c.in-Record.place) (ap (flat_map field_ty_places) c.deref.ensures.value) (ap (map (λ f. f.label)) c.deref-in-Record.ensures.value) ∙ ty-Record c.args.ty.now c.in-Record.place c.in-Record.fields c.in-Record.is)))
    c.check_fields.ensures

pub of_ty-returns-in-Con : goal.of_ty-returns-in-Con
of_ty-returns-in-Con t c = if-ok c.of_tys.result (λ u k. adds-for c.args.found.now.items _ _ _ (stand-are _ _ (ap (flat_map ty_places) c.deref-in-Con.ensures.value ∙ ty-Con c.args.ty.now c.in-Con.field-0 c.in-Con.arguments c.in-Con.field-2 c.in-Con.field-3 c.in-Con.is)) k) c.of_tys.ensures

pub of_ty-returns-in-Product : goal.of_ty-returns-in-Product
of_ty-returns-in-Product t c = if-ok c.of_tys-in-Product.result (λ u k. adds-for c.args.found.now.items _ _ _ (stand-are _ _ (ap (flat_map ty_places) c.deref-in-Product.ensures.value ∙ ty-Product c.args.ty.now c.in-Product.field-0 c.in-Product.parts c.in-Product.is)) k) c.of_tys-in-Product.ensures

pub of_ty-returns-in_ok-of_ty-in-Arrow : goal.of_ty-returns-in_ok-of_ty-in-Arrow
of_ty-returns-in_ok-of_ty-in-Arrow t c =
    if-ok c.of_parts.result
    (λ u k. adds-both c.args.found.now.items _ _ _ _ _ c.in_ok-of_ty-in-Arrow.ensures k (stand-are _ _ (ap₂ (λ a b. a ++ b) (ap ty_places c.deref-in-Arrow.ensures) (ap (flat_map ty_part_places) c.deref-in-Arrow-2.ensures.value) ∙ ty-Arrow c.args.ty.now c.in-Arrow.field-0 c.in-Arrow.first c.in-Arrow.parts c.in-Arrow.is)))
    c.of_parts.ensures
