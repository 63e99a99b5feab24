use Rattle.std.proofs.Common.{ap, ◌∙◌}
use Rattle.ir_tables.specs.of_ty_core.Types.{con}
use Rattle.ir_tables.specs.of_ty_core.TypesOf.{head_of}
use Rattle.ir_tables.specs.of_ty_table.TypeAt.{types_at}
use Rattle.ir_known.proofs.Asking.{named}
use Rattle.ir_known.proofs.ask.is_named.Goals as goal

pub returns-else-not-same_name : goal.returns-else-not-same_name
returns-else-not-same_name c = named c.args.types.now _ c.in-Apply.parts.now c.in-Named.found c.args.name c.is_none.result
    (c.in-Apply.ensures.0 ∙ ap (λ h. con (head_of h) (types_at c.args.types.now c.in-Apply.parts.now)) c.in-Named.is) (c.same_name.ensures.0 c.if-not-same_name.false) c.is_none.ensures
