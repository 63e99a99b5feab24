use Rattle.std.proofs.Common.{◌≡◌, true, map, refl, sym, subst}
use Rattle.std.specs.List.{AllByRecursion}
use Rattle.ty_basis.specs.Types.{row_type}
use Rattle.label_rows.specs.declared.sort.Field.{Field}
use Rattle.label_rows.specs.Sorting.{sorted}
use Rattle.core_rules.specs.Objects.{sorted as sorted_row}
use Rattle.ir_poly.specs.Types.{ascend}
use Rattle.elab_context.specs.of_elab_steps.Growing.{HasType, Always}
use Rattle.elab_context.specs.of_elab_steps.Rows.{row_of}
use Rattle.elab_context.specs.of_elab_steps.World.{type_of}
use Rattle.pat_elab.proofs.FieldsDo.{record_is}
use Rattle.pat_elab.proofs.fields.record.Goals as goal

pub record_type-requires : goal.record_type-requires
record_type-requires c = subst (AllByRecursion (λ (f : Field). HasType c.args.state.now f.part)) (sym c.deref.ensures.value) c.requires.row

pub returns : goal.returns
returns c S before after fs place h =
    record_is S c.args.state.now c.record_type.new.state c.args.context.now place fs before after c.args.fields _ h c.in_ok-ty.ensures.grows c.in_ok-ty.ensures.is
    (subst (λ (rs : _). ascend (map (λ (f : Field). f.label) (sorted rs)) ≡ true) c.deref.ensures.value c.in_ok-ty.ensures.once)
    (subst (λ (rs : _). Always c.record_type.new.state (λ W. type_of W c.in_ok-ty.ty ≡ row_type (sorted_row (row_of W rs)))) c.deref.ensures.value c.in_ok-ty.ensures.has)
    c.in_ok-ty.ensures.next refl
