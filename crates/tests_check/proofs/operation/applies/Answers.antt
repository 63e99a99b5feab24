use Rattle.ty_table.specs.TypeAt.{type_at}
use Rattle.tests_check.proofs.Operations.{applied, not-applied, no-function-applied}
use Rattle.tests_check.proofs.operation.applies.Goals as goal

pub returns-in-Some-atom_type : goal.returns-in-Some-atom_type
returns-in-Some-atom_type c = applied c.args.tables.now c.args.scope.now c.args.function c.args.argument c.in-Some.taken c.in-Some-atom_type.found (type_at c.args.tables.now.types c.args.ty) c.is_function.result c.in-Some.ensures
    c.in-Some-atom_type.ensures c.is_function.ensures

pub returns-in-None-atom_type : goal.returns-in-None-atom_type
returns-in-None-atom_type c = no-function-applied c.args.tables.now c.args.scope.now c.args.function c.args.argument (type_at c.args.tables.now.types c.args.ty) c.in-None-atom_type.ensures

pub returns-in-None : goal.returns-in-None
returns-in-None c = not-applied c.args.tables.now c.args.scope.now c.args.function c.args.argument (type_at c.args.tables.now.types c.args.ty) c.in-None.ensures
