use Rattle.std.proofs.Common.{ap, ◌∙◌}
use Rattle.std.specs.Option.{option_map}
use Rattle.ir_known.specs.of_ir_poly.Types.{find}
use Rattle.ir_known.proofs.Declaring.{not-yes}
use Rattle.ir_uses.specs.Uses.{table_at}
use Rattle.ir_uses.specs.Rows.{argument_type, row_kind}
use Rattle.ir_uses.proofs.Constructing.{argument-none, argument-same, argument-differs}
use Rattle.ir_uses.proofs.constructor.find_argument.Goals as goal

pub returns-then-same_name : goal.returns-then-same_name
returns-then-same_name c = λ ts. argument-same c.args.datatype ts (find (table_at c.args.tables.now) c.args.datatype c.args.number) c.in-Some.row.datatype (argument_type c.args.tables.now.types c.in-Some.row.argument)
    (c.find_row.ensures ∙ ap (option_map (row_kind c.args.tables.now.types)) c.in-Some.is) (c.same_name.ensures.0 c.if-same_name.true)

pub returns-else-same_name : goal.returns-else-same_name
returns-else-same_name c = λ ts. argument-differs c.args.datatype ts (find (table_at c.args.tables.now) c.args.datatype c.args.number) c.in-Some.row.datatype (argument_type c.args.tables.now.types c.in-Some.row.argument)
    (c.find_row.ensures ∙ ap (option_map (row_kind c.args.tables.now.types)) c.in-Some.is) (λ p. not-yes c.if-same_name.false (c.same_name.ensures.1 p))

pub returns-in-None : goal.returns-in-None
returns-in-None c = λ ts. argument-none c.args.datatype ts (find (table_at c.args.tables.now) c.args.datatype c.args.number) (c.find_row.ensures ∙ ap (option_map (row_kind c.args.tables.now.types)) c.in-None.is)
