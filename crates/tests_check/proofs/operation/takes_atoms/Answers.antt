use Rattle.ty_table.specs.TypeAt.{type_at}
use Rattle.ir_poly.specs.Types.{arguments_at}
use Rattle.tests_check.proofs.Operations.{atoms-taken, atoms-not}
use Rattle.tests_check.proofs.operation.takes_atoms.Goals as goal

pub returns-then-not-yes : goal.returns-then-not-yes
returns-then-not-yes c = atoms-not c.args.tables.now c.args.scope.now c.args.arguments.now (arguments_at c.args.primitive (type_at c.args.tables.now.types c.args.of)) (c.in_ok-yes.ensures.no c.if-not-yes.true)

pub returns : goal.returns
returns c = atoms-taken c.args.tables.now c.args.scope.now c.args.arguments.now c.push_atom_types.new.found.items c.deref.result.now (arguments_at c.args.primitive (type_at c.args.tables.now.types c.args.of)) c.takes.result
    (c.in_ok-yes.ensures.yes c.if-not-yes.false c.new-found.ensures.items) c.deref.ensures.value c.takes.ensures
