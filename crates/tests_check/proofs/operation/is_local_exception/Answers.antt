use Rattle.std.specs.Option.{option_map}
use Rattle.ty_table.specs.TypeAt.{type_at}
use Rattle.ir_tables.specs.Tables.{parameters_of}
use Rattle.tests_check.proofs.Operations.{exception-fits}
use Rattle.tests_check.proofs.operation.is_local_exception.Goals as goal

pub returns : goal.returns
returns c = exception-fits c.args.tables.now c.args.scope.now c.args.exception c.find_local.result (option_map (type_at c.args.tables.now.types) c.args.argument) c.is_exception.result c.find_local.ensures
    (c.is_exception.ensures (parameters_of c.args.tables.now))
