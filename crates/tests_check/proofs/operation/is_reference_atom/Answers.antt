use Rattle.ty_table.specs.TypeAt.{type_at}
use Rattle.ir_poly.specs.Types.{ref_type}
use Rattle.tests_check.proofs.Operations.{atom-refers, atom-is-not}
use Rattle.tests_check.proofs.operation.is_reference_atom.Goals as goal

pub returns-in-Some : goal.returns-in-Some
returns-in-Some c = atom-refers c.args.tables.now c.args.scope.now c.args.reference c.in-Some.found (type_at c.args.tables.now.types c.args.held) c.is_reference.result c.in-Some.ensures c.is_reference.ensures

pub returns-in-None : goal.returns-in-None
returns-in-None c = atom-is-not c.args.tables.now c.args.scope.now c.args.reference (ref_type (type_at c.args.tables.now.types c.args.held)) c.in-None.ensures
