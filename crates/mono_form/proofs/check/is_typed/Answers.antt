use Rattle.mono_form.proofs.Checks.{some-typed, none-typed}
use Rattle.mono_form.proofs.check.is_typed.Goals as goal

pub returns-in-Some : goal.returns-in-Some
returns-in-Some c = some-typed c.args.program.now c.new-scope.result c.in_ok-found.found c.in-Some.field-0 c.new-scope.ensures c.in_ok-found.ensures.is c.in-Some.is

pub returns : goal.returns
returns c = none-typed c.args.program.now c.new-scope.result c.in_ok-found.found c.new-scope.ensures c.in_ok-found.ensures.is c.in-None.is
