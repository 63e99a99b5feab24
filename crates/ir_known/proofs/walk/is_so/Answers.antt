use Rattle.std.proofs.Common.{sym, ◌∙◌}
use Rattle.ir_known.proofs.Opening.{some-over, some-admits, none-so}
use Rattle.ir_known.proofs.walk.is_so.Goals as goal

pub returns-in-Over : goal.returns-in-Over
returns-in-Over c = some-over c.args.scope.now c.args.v c.in-Some.mark c.args.question (sym c.in-Some.is ∙ c.get.ensures) c.in-Over.is

pub returns-in-Admits : goal.returns-in-Admits
returns-in-Admits c = some-admits c.args.scope.now c.args.v c.in-Some.mark c.args.question c.is_equality_mark.result (sym c.in-Some.is ∙ c.get.ensures) c.in-Admits.is c.is_equality_mark.ensures

pub returns-in-None : goal.returns-in-None
returns-in-None c = none-so c.args.scope.now c.args.v c.args.question (sym c.in-None.is ∙ c.get.ensures)
