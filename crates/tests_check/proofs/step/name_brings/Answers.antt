use Rattle.std.proofs.Common.{◌++◌}
use Rattle.ir_tables.specs.Tables.{parameters_of}
use Rattle.tests_check.proofs.Names.{none-known, not-yes}
use Rattle.tests_check.proofs.Binding.{name-binds}
use Rattle.tests_check.proofs.step.name_brings.Goals as goal

pub returns-in-None-clause-no : goal.returns-in-None-clause-no
returns-in-None-clause-no c = λ _ a p _. c.in-None.ensures a p

pub returns-in_ok-new-in-Some-clause-yes : goal.returns-in_ok-new-in-Some-clause-yes
returns-in_ok-new-in-Some-clause-yes c = λ y. name-binds c.args.tables.now c.args.scope.now c.bind.new.self c.args.variable c.args.named c.in-Some.argument c.in-Some.ensures
    ((none-known c.args.tables.now.types (parameters_of c.args.tables.now) (c.args.scope.now.0 ++ c.args.scope.now.1) c.args.variable c.in_ok-new-in-Some.new c.in_ok-new-in-Some.ensures.new).0 y) (c.in_ok-new-in-Some.ensures.bound y)

pub returns-in_ok-new-in-Some-clause-no : goal.returns-in_ok-new-in-Some-clause-no
returns-in_ok-new-in-Some-clause-no c = λ f _ _ n. not-yes f ((none-known c.args.tables.now.types (parameters_of c.args.tables.now) (c.args.scope.now.0 ++ c.args.scope.now.1) c.args.variable c.in_ok-new-in-Some.new c.in_ok-new-in-Some.ensures.new).1 n)
