use Rattle.std.proofs.Common.{sym, subst, ◌∙◌, arith}
use Rattle.label_rows.specs.declared.sort.Field.{Field}
use Rattle.elab_steps.specs.Growing.{HasType, AreTypes}
use Rattle.elab_steps.proofs.Sorting.{column, row-is, sorted-all, types-held}
use Rattle.elab_steps.proofs.rows.record_type.Goals as goal

pub apply-requires : goal.apply-requires
apply-requires c =
    let S = c.args.state.now in
    let xs = c.args.fields.now in
    let ys = c.in_ok-fields.fields.items in
    subst (AreTypes S)
    (sym (c.deref-2.ensures.value ∙ column (λ (f : Field). f.part) ys c.loop-i.i c.loop-i.parts.items (omega (arith, c.len-i-end.ensures)) c.loop-i.invariant.1))
    (types-held S ys (subst (Rattle.std.specs.List.AllByRecursion (λ (f : Field). HasType S f.part)) (sym c.in_ok-fields.ensures) (sorted-all (λ f. HasType S f.part) xs c.requires)))

pub returns-clause-has : goal.returns-clause-has
returns-clause-has c W w =
    let ys = c.in_ok-fields.fields.items in
    row-is W c.args.fields.now ys _ c.loop-i.labels.items c.deref-2.result.now c.in_ok-fields.ensures
    (column (λ (f : Field). f.label) ys c.loop-i.i c.loop-i.labels.items (omega (arith, c.len-i-end.ensures)) c.loop-i.invariant.0)
    (c.deref-2.ensures.value ∙ column (λ (f : Field). f.part) ys c.loop-i.i c.loop-i.parts.items (omega (arith, c.len-i-end.ensures)) c.loop-i.invariant.1)
    (c.in_ok-apply.ensures.made W w)
