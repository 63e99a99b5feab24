use Rattle.std.proofs.Common.{ap, sym, ◌∙◌}
use Rattle.ir_tables.specs.of_ty_core.Types.{con}
use Rattle.ir_tables.specs.of_ty_core.TypesOf.{head_of}
use Rattle.ir_tables.specs.of_ty_table.TypeAt.{types_at}
use Rattle.ir_known.proofs.Asking.{nothing}
use Rattle.ir_known.proofs.ask.is_unit.Goals as goal

pub returns-else-not-has_no_labels : goal.returns-else-not-has_no_labels
returns-else-not-has_no_labels c = nothing c.args.types.now _ c.in-Record.labels.items c.in-Apply.parts.now c.is_none.result
    (c.in-Apply.ensures.0 ∙ ap (λ h. con (head_of h) (types_at c.args.types.now c.in-Apply.parts.now)) c.in-Record.is) (sym c.deref.ensures.value ∙ c.has_no_labels.ensures.0 c.if-not-has_no_labels.false) c.is_none.ensures
