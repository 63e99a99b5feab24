use Rattle.std.proofs.Common.{ap, ◌∙◌}
use Rattle.std.specs.Option.{option_map}
use Rattle.ir_known.specs.of_ir_poly.Types.{initial_constructors, find}
use Rattle.ir_known.specs.of_ir_tables.Rows.{constructor_at}
use Rattle.ir_known.specs.of_ir_tables.Tables.{constructors_of}
use Rattle.ir_uses.specs.Rows.{kind_of, row_kind}
use Rattle.ir_uses.proofs.Constructing.{row-first, row-later, row-kind}
use Rattle.ir_uses.proofs.constructor.find_row.Goals as goal

pub returns-in-Some : goal.returns-in-Some
returns-in-Some c = row-first initial_constructors (constructors_of c.args.tables.now) c.args.datatype c.args.number (row_kind c.args.tables.now.types c.in-Some.row) (c.find_initial.ensures c.args.tables.now.types ∙ ap (option_map (row_kind c.args.tables.now.types)) c.in-Some.is)

pub returns-in-Some-find : goal.returns-in-Some-find
returns-in-Some-find c =
    ap (option_map kind_of) (row-later initial_constructors (constructors_of c.args.tables.now) c.args.datatype c.args.number (c.find_initial.ensures c.args.tables.now.types ∙ ap (option_map (row_kind c.args.tables.now.types)) c.in-None.is))
    ∙ row-kind c.args.tables.now.types (find (constructors_of c.args.tables.now) c.args.datatype c.args.number) c.find.result c.in-Some-find.found c.argument_in.result (c.find.ensures.found c.args.tables.now.types) c.in-Some-find.is
    (c.argument_in.ensures c.args.tables.now.types)

pub returns-in-None-find : goal.returns-in-None-find
returns-in-None-find c =
    ap (option_map kind_of) (row-later initial_constructors (constructors_of c.args.tables.now) c.args.datatype c.args.number (c.find_initial.ensures c.args.tables.now.types ∙ ap (option_map (row_kind c.args.tables.now.types)) c.in-None.is)
    ∙ c.find.ensures.found c.args.tables.now.types ∙ ap (option_map (constructor_at c.args.tables.now.types)) c.in-None-find.is)
