use Rattle.std.proofs.Common.{refl, sym, subst}
use Rattle.std.specs.List.{AllByRecursion}
use Rattle.label_rows.specs.declared.sort.Field.{Field}
use Rattle.elab_context.specs.of_elab_steps.Growing.{HasType, Always, IsWithin}
use Rattle.elab_context.specs.of_elab_steps.Rows.{HasFields}
use Rattle.elab_context.specs.of_elab_steps.World.{type_of}
use Rattle.pat_elab.proofs.FieldsDo.{open_is}
use Rattle.pat_elab.proofs.fields.open_record.Goals as goal

pub open_record_type-requires-clause-parts : goal.open_record_type-requires-clause-parts
open_record_type-requires-clause-parts c = subst (AllByRecursion (λ (f : Field). HasType c.args.state.now f.part)) (sym c.deref.ensures.value) c.requires.row

pub returns : goal.returns
returns c S before after fs place h =
    open_is S c.args.state.now c.open_record_type.new.state c.args.context.now place fs before after c.args.fields _ h c.requires.context c.in_ok-ty.ensures.grows c.in_ok-ty.ensures.is
    (subst (λ l. Always c.open_record_type.new.state (λ W. IsWithin W l c.in_ok-ty.ty)) c.limit.ensures c.in_ok-ty.ensures.within)
    (subst (λ (rs : _). Always c.open_record_type.new.state (λ W. HasFields W rs (type_of W c.in_ok-ty.ty))) c.deref.ensures.value c.in_ok-ty.ensures.has)
    c.in_ok-ty.ensures.next refl
