use Rattle.ir_tests.proofs.Checks.{some-typed, none-typed}
use Rattle.ir_tests.proofs.check.is_typed.Goals as goal

pub returns-in-Some : goal.returns-in-Some
returns-in-Some c = some-typed c.args.program.now c.new-marks.result c.new-scope.result c.in-Some.field-0 c.new-marks.ensures c.new-scope.ensures (c.in_ok-found.ensures.some c.in-Some.field-0 c.in-Some.is)

pub returns : goal.returns
returns c = none-typed c.args.program.now c.new-marks.result c.new-scope.result c.new-marks.ensures c.new-scope.ensures (c.in_ok-found.ensures.none c.in-None.is)
