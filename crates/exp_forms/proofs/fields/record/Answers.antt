use Rattle.std.proofs.Common.{◌≡◌, List, map, true, refl, sym, subst}
use Rattle.std.specs.List.{AllByRecursion}
use Rattle.ty_basis.specs.Types.{row_type}
use Rattle.label_rows.specs.declared.sort.Field.{Field}
use Rattle.label_rows.specs.Sorting.{sorted}
use Rattle.core_rules.specs.Objects.{sorted as sorted_row}
use Rattle.ir_poly.specs.Types.{ascend}
use Rattle.pat_elab.specs.of_elab_steps.Growing.{HasType, Always}
use Rattle.pat_elab.specs.of_elab_steps.Rows.{row_of}
use Rattle.pat_elab.specs.of_elab_steps.World.{type_of}
use Rattle.exp_forms.proofs.Recording.{record_is}
use Rattle.exp_forms.proofs.fields.record.Goals as goal

pub record_type-requires : goal.record_type-requires
record_type-requires c = subst (AllByRecursion (λ (f : Field). HasType c.args.state.now f.part)) (sym c.deref.ensures.value) c.requires.row

pub returns : goal.returns
returns c S p ls es h =
    record_is S c.args.state.now c.record_type.new.state c.write.new.state c.args.context.now p ls es c.args.fields c.in_ok-ty.ty c.in_ok-written.written _ h c.in_ok-ty.ensures.grows
    c.in_ok-ty.ensures.is (subst (λ (l : List Field). ascend (map (λ f. f.label) (sorted l)) ≡ true) c.deref.ensures.value c.in_ok-ty.ensures.once)
    (subst (λ (l : List Field). Always c.record_type.new.state (λ W. type_of W c.in_ok-ty.ty ≡ row_type (sorted_row (row_of W l)))) c.deref.ensures.value c.in_ok-ty.ensures.has)
    c.in_ok-written.ensures.grows c.in_ok-written.ensures.is refl refl
