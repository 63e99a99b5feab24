use Rattle.std.proofs.Common.{ap, map, ◌∙◌}
use Rattle.std.specs.Option.{option_map}
use Rattle.ty_table.specs.TypeAt.{type_at}
use Rattle.ir_known.specs.of_ir_poly.Types.{argument_at, find}
use Rattle.ir_known.specs.Knows.{marks_of}
use Rattle.ir_uses.specs.Uses.{table_at}
use Rattle.ir_uses.specs.Rows.{argument_type}
use Rattle.ir_uses.proofs.Constructing.{con-none, con-not-over, con-over}
use Rattle.ir_uses.proofs.constructor.is_constructor_use.Goals as goal

pub returns-then-not-over : goal.returns-then-not-over
returns-then-not-over c = con-not-over (marks_of c.args.scope.now) c.args.datatype (map (type_at c.args.tables.now.types) c.args.ts.now) (type_at c.args.tables.now.types c.args.t) (find (table_at c.args.tables.now) c.args.datatype c.args.constructor)
    (argument_at (map (type_at c.args.tables.now.types) c.args.ts.now) (argument_type c.args.tables.now.types c.in-Some.found)) c.in_ok-over-in-Some.over
    (c.find_argument.ensures (map (type_at c.args.tables.now.types) c.args.ts.now)
    ∙ ap (option_map (λ a. argument_at (map (type_at c.args.tables.now.types) c.args.ts.now) (argument_type c.args.tables.now.types a))) c.in-Some.is)
    c.in_ok-over-in-Some.ensures c.if-not-over.true

pub returns-in_ok-yes-in-Some : goal.returns-in_ok-yes-in-Some
returns-in_ok-yes-in-Some c = con-over (marks_of c.args.scope.now) c.args.datatype (map (type_at c.args.tables.now.types) c.args.ts.now) (type_at c.args.tables.now.types c.args.t) (find (table_at c.args.tables.now) c.args.datatype c.args.constructor)
    (argument_at (map (type_at c.args.tables.now.types) c.args.ts.now) (argument_type c.args.tables.now.types c.in-Some.found)) c.in_ok-over-in-Some.over c.in_ok-yes-in-Some.yes
    (c.find_argument.ensures (map (type_at c.args.tables.now.types) c.args.ts.now)
    ∙ ap (option_map (λ a. argument_at (map (type_at c.args.tables.now.types) c.args.ts.now) (argument_type c.args.tables.now.types a))) c.in-Some.is)
    c.in_ok-over-in-Some.ensures c.if-not-over.false c.in_ok-yes-in-Some.ensures

pub returns-in-None : goal.returns-in-None
returns-in-None c = con-none (marks_of c.args.scope.now) c.args.datatype (map (type_at c.args.tables.now.types) c.args.ts.now) (type_at c.args.tables.now.types c.args.t) (find (table_at c.args.tables.now) c.args.datatype c.args.constructor)
    (c.find_argument.ensures (map (type_at c.args.tables.now.types) c.args.ts.now)
    ∙ ap (option_map (λ a. argument_at (map (type_at c.args.tables.now.types) c.args.ts.now) (argument_type c.args.tables.now.types a))) c.in-None.is)
