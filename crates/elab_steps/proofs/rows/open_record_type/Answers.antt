use Rattle.std.proofs.Common.{false, map, sym, ap, subst, ◌∙◌}
use Rattle.std.specs.List.{AllByRecursion}
use Rattle.label_rows.specs.declared.sort.Field.{Field}
use Rattle.elab_types.specs.of_ty_solve.Rows.{Extends}
use Rattle.elab_state.specs.of_ir_poly.Types.{ascend}
use Rattle.elab_steps.specs.Growing.{HasType, types_of}
use Rattle.elab_steps.specs.Rows.{AreBounded}
use Rattle.elab_steps.specs.World.{type_of}
use Rattle.elab_steps.proofs.Bounding.{row-fits}
use Rattle.elab_steps.proofs.Changing.{parts_held}
use Rattle.elab_steps.proofs.Growing.{comes_before, grows_on, type_later}
use Rattle.elab_steps.proofs.Opening.{opened}
use Rattle.elab_steps.proofs.Sorting.{sorted-all}
use Rattle.elab_steps.proofs.rows.open_record_type.Goals as goal

pub bounded_parts-requires-clause-parts : goal.bounded_parts-requires-clause-parts
bounded_parts-requires-clause-parts c =
    let S = c.args.state.now in
    subst (AllByRecursion (λ (f : Field). HasType S f.part)) (sym (c.deref-3.ensures.value ∙ c.in_ok-fields.ensures)) (sorted-all (λ f. HasType S f.part) c.args.fields.now c.requires.parts)

pub fresh_row-requires-clause-held : goal.fresh_row-requires-clause-held
fresh_row-requires-clause-held c = parts_held c.bounded_parts.new.state c.in_ok-types.types.items c.in_ok-types.ensures.are

pub fresh_row-requires-clause-fit : goal.fresh_row-requires-clause-fit
fresh_row-requires-clause-fit c =
    row-fits c.args.state.now c.bounded_parts.new.state c.args.limit c.in_ok-fields.fields.items (record { equality = false; labels = c.in_ok-labels.labels; types = c.in_ok-types.types })
    (subst (λ l. AreBounded c.args.state.now c.args.limit l c.bounded_parts.new.state c.in_ok-types.types.items) c.deref-3.ensures.value c.in_ok-types.ensures)
    (c.in_ok-labels.ensures ∙ ap (map (λ (f : Field). f.label)) c.deref-2.ensures.value)
    (ap (λ l. ascend (map (λ (f : Field). f.label) l)) (sym c.deref.ensures.value) ∙ sym c.are_ascending.ensures ∙ c.if-not-are_ascending.false)

pub returns-clause-grows : goal.returns-clause-grows
returns-clause-grows c =
    let before = grows_on c.args.state.now c.bounded_parts.new.state c.fresh_row.new.state c.in_ok-types.ensures.grows c.in_ok-ty.ensures.grows in
    grows_on c.args.state.now c.fresh_row.new.state c.note_flexible.new.state before c.in_ok-note_flexible.ensures.grows

pub returns-clause-is : goal.returns-clause-is
returns-clause-is c = type_later c.fresh_row.new.state c.note_flexible.new.state c.in_ok-ty.ty c.in_ok-note_flexible.ensures.grows c.in_ok-ty.ensures.is

pub returns-clause-within : goal.returns-clause-within
returns-clause-within c W w = c.in_ok-ty.ensures.within W (comes_before c.fresh_row.new.state c.note_flexible.new.state W c.in_ok-note_flexible.ensures.grows w)

pub returns-clause-has : goal.returns-clause-has
returns-clause-has c W w =
    let ys = c.in_ok-fields.fields.items in
    let t = type_of W c.in_ok-ty.ty in
    let us = types_of W c.in_ok-types.types.items in
    let made = comes_before c.fresh_row.new.state c.note_flexible.new.state W c.in_ok-note_flexible.ensures.grows w in
    let same = subst (λ l. AreBounded c.args.state.now c.args.limit l c.bounded_parts.new.state c.in_ok-types.types.items) c.deref-3.ensures.value c.in_ok-types.ensures in
    opened W W.admits false c.args.fields.now ys us t c.in_ok-fields.ensures
    (ap (λ l. ascend (map (λ (f : Field). f.label) l)) (sym c.deref.ensures.value) ∙ sym c.are_ascending.ensures ∙ c.if-not-are_ascending.false)
    (same.same W (comes_before c.bounded_parts.new.state c.fresh_row.new.state W c.in_ok-ty.ensures.grows made)) (c.in_ok-ty.ensures.ordered W made)
    (subst (λ ls. Extends W.admits false ls us t) (c.in_ok-labels.ensures ∙ ap (map (λ (f : Field). f.label)) c.deref-2.ensures.value) (c.in_ok-ty.ensures.extends W made))
