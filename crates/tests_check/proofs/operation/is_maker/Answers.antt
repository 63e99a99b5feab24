use Rattle.ty_table.specs.TypeAt.{type_at}
use Rattle.tests_check.proofs.Operations.{maker, no-maker}
use Rattle.tests_check.proofs.operation.is_maker.Goals as goal

pub returns-in-Some : goal.returns-in-Some
returns-in-Some c = maker (type_at c.args.types.now c.args.ty) (type_at c.args.types.now c.args.held) (type_at c.args.types.now c.in-Some.made) c.is_reference.result c.in-Some.ensures c.is_reference.ensures

pub returns-in-None : goal.returns-in-None
returns-in-None c = no-maker (type_at c.args.types.now c.args.ty) (type_at c.args.types.now c.args.held) c.in-None.ensures
