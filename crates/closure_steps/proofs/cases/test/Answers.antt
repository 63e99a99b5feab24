use Rattle.std.proofs.Common.{sym, ap, ◌∙◌}
use Rattle.first_values.specs.Operations as op
use Rattle.closure_steps.specs.Cases.{test_in}
use Rattle.closure_steps.proofs.cases.test.Goals as goal

pub returns-in-Constant : goal.returns-in-Constant
returns-in-Constant c = λ types strings n F T h. ap op.is (c.constant.ensures types strings n F T h) ∙ ap (test_in n strings) (sym c.in-Constant.is)
