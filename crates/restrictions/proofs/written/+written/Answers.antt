use Rattle.std.proofs.Common.{◌<◌, length, sym, ap, ap₂, ◌++◌, ◌∙◌, arith}
use Rattle.std.specs.Prelude.{flat_map, map}
use Rattle.std.specs.List.{list_any}
use Rattle.core_rules.specs.Restrictions.{distinct}
use Rattle.core_rules.specs.Words.{same_label}
use Rattle.restrictions.specs.Written.{chosen, chosen_all, unless_mark, used_at, written, written_field, written_part}
use Rattle.restrictions.proofs.Abbreviated.{alike-are, all-chosen, chosen-last, chosen-next, length-written, noted-first, noted-last, noted-next, notes-are, notes-both, notes-for, written-Arrow, written-Con, written-Product, written-Record, written-Var, written-abbreviation}
use Rattle.restrictions.proofs.Lists.{read-bool, within-at}
use Rattle.restrictions.proofs.Standing.{if-ok}
use Rattle.restrictions.proofs.written.+written.Goals as goal

pub of_fields-loop-i-init : goal.of_fields-loop-i-init
of_fields-loop-i-init t c bs r = noted-first (written_field bs) c.args.fields.now c.args.marks.now.items

pub of_fields-loop-i-preserved : goal.of_fields-loop-i-preserved
of_fields-loop-i-preserved t c bs r =
    noted-next (written_field bs) c.args.fields.now c.loop-i.i c.index-fields-i.result c.args.marks.now.items c.loop-i.marks.items _ c.loop-i-test.true c.index-fields-i.is (c.loop-i.invariant bs r)
    (c.in_ok-of_written.ensures bs r)

pub of_fields-returns : goal.of_fields-returns
of_fields-returns t c bs r = noted-last (written_field bs) c.args.fields.now c.loop-i.i c.args.marks.now.items c.loop-i.marks.items c.loop-i-test.false (c.loop-i.invariant bs r)

pub of_tys-loop-i-init : goal.of_tys-loop-i-init
of_tys-loop-i-init t c bs r = noted-first (written bs) c.args.tys.now c.args.marks.now.items

pub of_tys-loop-i-preserved : goal.of_tys-loop-i-preserved
of_tys-loop-i-preserved t c bs r =
    noted-next (written bs) c.args.tys.now c.loop-i.i c.index-tys-i.result c.args.marks.now.items c.loop-i.marks.items _ c.loop-i-test.true c.index-tys-i.is (c.loop-i.invariant bs r)
    (c.in_ok-of_written.ensures bs r)

pub of_tys-returns : goal.of_tys-returns
of_tys-returns t c bs r = noted-last (written bs) c.args.tys.now c.loop-i.i c.args.marks.now.items c.loop-i.marks.items c.loop-i-test.false (c.loop-i.invariant bs r)

pub of_parts-loop-i-init : goal.of_parts-loop-i-init
of_parts-loop-i-init t c bs r = noted-first (written_part bs) c.args.parts.now c.args.marks.now.items

pub of_parts-loop-i-preserved : goal.of_parts-loop-i-preserved
of_parts-loop-i-preserved t c bs r =
    noted-next (written_part bs) c.args.parts.now c.loop-i.i c.index-parts-i.result c.args.marks.now.items c.loop-i.marks.items _ c.loop-i-test.true c.index-parts-i.is (c.loop-i.invariant bs r)
    (c.in_ok-of_written.ensures bs r)

pub of_parts-returns : goal.of_parts-returns
of_parts-returns t c bs r = noted-last (written_part bs) c.args.parts.now c.loop-i.i c.args.marks.now.items c.loop-i.marks.items c.loop-i-test.false (c.loop-i.invariant bs r)

pub of_chosen-loop-i-init : goal.of_chosen-loop-i-init
of_chosen-loop-i-init t c bs r new h = h

pub of_chosen-loop-i-preserved : goal.of_chosen-loop-i-preserved
of_chosen-loop-i-preserved t c bs r =
    let lt = c.loop-i-test.true in
    let e = c.requires in
    let less : c.loop-i.i < length c.args.used.now = omega (arith, lt, e) in
    chosen-next c.args.used.now (written bs) c.args.arguments.now c.loop-i.i _ c.index-arguments-i.result c.args.marks.now.items c.loop-i.marks.items _ lt less (read-bool c.args.used.now c.loop-i.i _ _ less)
    c.index-arguments-i.is (c.loop-i.invariant bs r) (c.in_ok-of_written_if.ensures bs r)

pub of_chosen-returns : goal.of_chosen-returns
of_chosen-returns t c bs r = chosen-last c.args.used.now (written bs) c.args.arguments.now c.loop-i.i c.args.marks.now.items c.loop-i.marks.items c.loop-i-test.false (c.loop-i.invariant bs r)

pub of_written-returns-in_ok-push-in-Var : goal.of_written-returns-in_ok-push-in-Var
of_written-returns-in_ok-push-in-Var t c bs r =
    notes-for c.args.marks.now.items _ _ _ (alike-are _ _ (written-Var bs c.args.ty.now c.in-Var.field-0 c.in-Var.tyvar c.in-Var.is)) (notes-are c.args.marks.now.items _ _ c.in_ok-push-in-Var.ensures.items)

pub of_written-returns-in_ok-of_fields-in-Record : goal.of_written-returns-in_ok-of_fields-in-Record
of_written-returns-in_ok-of_fields-in-Record t c =
    if-ok c.check_fields.result
    (λ u k bs r.
    notes-both c.args.marks.now.items _ _ _ _ _ (c.in_ok-of_fields-in-Record.ensures bs r) k
    (ap₂ (λ a b. a ++ unless_mark (distinct same_label b) c.in-Record.place) (ap (flat_map (written_field bs)) c.deref.ensures.value) (ap (map (λ f. f.label)) c.deref-in-Record.ensures.value)
    ∙ written-Record bs c.args.ty.now c.in-Record.place c.in-Record.fields c.in-Record.is))
    c.check_fields.ensures

pub of_written-returns-in-Product : goal.of_written-returns-in-Product
of_written-returns-in-Product t c =
    if-ok c.of_tys-in-Product.result
    (λ u k bs r.
    notes-for c.args.marks.now.items _ _ _ (alike-are _ _ (ap (flat_map (written bs)) c.deref-in-Product.ensures.value ∙ written-Product bs c.args.ty.now c.in-Product.field-0 c.in-Product.parts c.in-Product.is)) (k bs r))
    c.of_tys-in-Product.ensures

pub of_written-returns-in_ok-of_written-in-Arrow : goal.of_written-returns-in_ok-of_written-in-Arrow
of_written-returns-in_ok-of_written-in-Arrow t c =
    if-ok c.of_parts.result
    (λ u k bs r.
    notes-both c.args.marks.now.items _ _ _ _ _ (c.in_ok-of_written-in-Arrow.ensures bs r) (k bs r)
    (ap₂ (λ a b. a ++ b) (ap (written bs) c.deref-in-Arrow.ensures) (ap (flat_map (written_part bs)) c.deref-in-Arrow-2.ensures.value)
    ∙ written-Arrow bs c.args.ty.now c.in-Arrow.field-0 c.in-Arrow.first c.in-Arrow.parts c.in-Arrow.is))
    c.of_parts.ensures

pub of_written-returns-in-None : goal.of_written-returns-in-None
of_written-returns-in-None t c =
    if-ok c.of_tys.result
    (λ u k bs r.
    notes-for c.args.marks.now.items _ _ _ (alike-are _ _ (ap (flat_map (written bs)) c.deref-in-None.ensures.value
    ∙ written-Con bs c.args.within.now c.args.ty.now c.in-Con.field-0 c.in-Con.arguments c.in-Con.field-2 c.in-Con.tycon c.in-Con.is r (sym c.number_of.ensures ∙ c.in-None.is))) (k bs r))
    c.of_tys.ensures

pub of_written-returns-in-Some : goal.of_written-returns-in-Some
of_written-returns-in-Some t c =
    if-ok c.of_abbreviated.result
    (λ u k bs r.
    notes-for c.args.marks.now.items _ _ _ (λ z. ap (λ l. list_any z (chosen_all (used_at c.args.within.now c.in-Some.number) (map (written bs) l))) c.deref-in-Some.ensures.value
    ∙ written-abbreviation bs c.args.within.now c.args.ty.now c.in-Con.field-0 c.in-Con.arguments c.in-Con.field-2 c.in-Con.tycon c.in-Some.number c.in-Con.is r (sym c.number_of.ensures ∙ c.in-Some.is) z) (k bs r))
    c.of_abbreviated.ensures

pub of_abbreviated-returns : goal.of_abbreviated-returns
of_abbreviated-returns t c =
    let few = c.if-number-len.false in
    let own = c.args.within.now.used.ok.0 in
    let all = c.len.ensures in
    let lt : c.args.number < length c.args.within.now.used.items = omega (arith, few, own, all) in
    let ok = c.index-used.result.now.ok.0 in
    let n = c.len-2.ensures in
    let same = c.if-len-arguments.false in
    if-ok c.of_chosen.result
    (λ u k bs r.
    let m = length-written (written bs) c.args.arguments.now in
    notes-for c.args.marks.now.items _ _ _
    (alike-are _ _
    (ap (λ l. chosen l (map (written bs) c.args.arguments.now)) c.deref.ensures.value
    ∙ all-chosen c.index-used.result.now.items (map (written bs) c.args.arguments.now) (omega (arith, ok, n, same, m))
    ∙ ap (λ l. chosen_all l (map (written bs) c.args.arguments.now)) (sym (within-at (λ w. w.items) c.args.within.now.used.items c.args.number c.index-used.result.now lt c.index-used.ensures))))
    (k bs r))
    c.of_chosen.ensures
