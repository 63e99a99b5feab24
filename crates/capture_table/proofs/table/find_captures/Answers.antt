use Rattle.capture_table.proofs.Agree.{captured-all}
use Rattle.capture_scope.proofs.Repeating.{fault-passed}
use Rattle.capture_table.proofs.Twice.{none-twice}
use Rattle.capture_table.proofs.table.find_captures.Goals as goal

pub returns-clause-table : goal.returns-clause-table
returns-clause-table c = λ types strings. captured-all types strings c.args.body.now c.new-found.result c.walk.new.found c.new-scope.result c.new-found.ensures c.new-scope.ensures c.in_ok-walk.ensures.table

pub returns-in_err-walk-clause-twice : goal.returns-in_err-walk-clause-twice
returns-in_err-walk-clause-twice c =
    fault-passed c.from_residual.result c.in_err-walk.field-0.0 c.from_residual.ensures.1 _ _
    (λ r types strings once. none-twice types strings c.args.body.now c.new-scope.result c.new-scope.ensures r once) c.in_err-walk.ensures.twice
