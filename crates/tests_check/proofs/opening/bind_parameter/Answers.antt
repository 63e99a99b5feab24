use Rattle.std.proofs.Common.{◌++◌}
use Rattle.ir_tables.specs.Tables.{parameters_of}
use Rattle.tests_check.proofs.Names.{none-known, not-yes}
use Rattle.tests_check.proofs.opening.bind_parameter.Goals as goal

pub returns-clause-new : goal.returns-clause-new
returns-clause-new c = (none-known c.args.tables.now.types (parameters_of c.args.tables.now) (c.args.scope.now.0 ++ c.args.scope.now.1) c.args.parameter.variable c.in_ok-new.new c.in_ok-new.ensures.new).0

pub returns-clause-no : goal.returns-clause-no
returns-clause-no c = λ f _ n. not-yes f ((none-known c.args.tables.now.types (parameters_of c.args.tables.now) (c.args.scope.now.0 ++ c.args.scope.now.1) c.args.parameter.variable c.in_ok-new.new c.in_ok-new.ensures.new).1 n)
