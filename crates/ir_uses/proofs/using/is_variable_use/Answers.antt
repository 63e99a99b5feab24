use Rattle.std.proofs.Common.{map, sym, ◌∙◌}
use Rattle.ty_table.specs.TypeAt.{type_at}
use Rattle.ir_known.specs.of_ir_tables.Tables.{parameters_of}
use Rattle.ir_known.specs.Knows.{marks_of}
use Rattle.ir_uses.proofs.UseLemmas.{use-decided, no-use}
use Rattle.ir_uses.proofs.using.is_variable_use.Goals as goal

pub returns-then-not-is_of_types : goal.returns-then-not-is_of_types
returns-then-not-is_of_types c = no-use (marks_of c.args.scope.now) c.args.tables.now.types (parameters_of c.args.tables.now) (map (type_at c.args.tables.now.types) c.args.ts.now) (type_at c.args.tables.now.types c.args.t) c.args.known
    (sym (c.is_of_types.ensures c.args.tables.now.types (parameters_of c.args.tables.now)) ∙ c.if-not-is_of_types.true)

pub returns : goal.returns
returns c = use-decided (marks_of c.args.scope.now) c.args.tables.now.types (parameters_of c.args.tables.now) (map (type_at c.args.tables.now.types) c.args.ts.now) (type_at c.args.tables.now.types c.args.t) c.args.known c.in_ok-yes.yes
    (sym (c.is_of_types.ensures c.args.tables.now.types (parameters_of c.args.tables.now)) ∙ c.if-not-is_of_types.false) c.in_ok-yes.ensures
