use Rattle.ty_table.specs.TypeAt.{type_at}
use Rattle.std.proofs.Common.{◌↔◌, IsTrue, map, subst}
use Rattle.ir_known.specs.of_ir_tables.Tables.{parameters_of}
use Rattle.ir_known.specs.Knows.{marks_of}
use Rattle.ir_uses.specs.Uses.{IsInstance}
use Rattle.ir_uses.proofs.UseLemmas.{use-known}
use Rattle.ir_uses.proofs.using.known_fits.Goals as goal

pub returns-in_ok-yes-in-General : goal.returns-in_ok-yes-in-General
returns-in_ok-yes-in-General c = use-known c.args.tables.now.types (parameters_of c.args.tables.now) (marks_of c.args.scope.now) c.args.known c.in-General.parameters c.in-General.ty (map (type_at c.args.tables.now.types) c.args.ts.now) (type_at c.args.tables.now.types c.args.t)
    c.in_ok-yes-in-General.yes c.in-General.is (subst (λ qs. IsTrue c.in_ok-yes-in-General.yes ↔ IsInstance (marks_of c.args.scope.now) qs (type_at c.args.tables.now.types c.in-General.ty) (map (type_at c.args.tables.now.types) c.args.ts.now) (type_at c.args.tables.now.types c.args.t)) c.parameters-all.ensures c.in_ok-yes-in-General.ensures)
