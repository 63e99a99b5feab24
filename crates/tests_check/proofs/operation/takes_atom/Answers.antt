use Rattle.ty_table.specs.TypeAt.{type_at}
use Rattle.tests_check.specs.Walk.{table_of}
use Rattle.tests_check.proofs.Operations.{atom-taken, atom-not-taken}
use Rattle.tests_check.proofs.operation.takes_atom.Goals as goal

pub returns-in_ok-yes-in-Some : goal.returns-in_ok-yes-in-Some
returns-in_ok-yes-in-Some c = atom-taken c.args.tables.now c.args.scope.now (table_of c.args.tables.now) c.args.constructor c.args.argument c.in-Some.found (type_at c.args.tables.now.types c.args.ty) c.in_ok-yes-in-Some.yes
    c.in-Some.ensures c.in_ok-yes-in-Some.ensures.fits

pub returns-in-None : goal.returns-in-None
returns-in-None c = atom-not-taken c.args.tables.now c.args.scope.now (table_of c.args.tables.now) c.args.constructor c.args.argument (type_at c.args.tables.now.types c.args.ty) c.in-None.ensures
