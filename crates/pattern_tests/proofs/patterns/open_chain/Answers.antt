use Rattle.std.proofs.lemmas.Result.{IfOk-weaker}
use Rattle.pattern_tests.proofs.Loops.{chain-as}
use Rattle.pattern_tests.proofs.patterns.open_chain.Goals as goal

pub returns-in-Right : goal.returns-in-Right
returns-in-Right c = IfOk-weaker c.open_right.result _ _ (λ o h p. chain-as c.args.side _ p c.args.parts.now c.args.u c.args.atom c.in-Right.is (h p)) c.open_right.ensures

pub returns-in-Left : goal.returns-in-Left
returns-in-Left c = IfOk-weaker c.open_left.result _ _ (λ o h p. chain-as c.args.side _ p c.args.parts.now c.args.u c.args.atom c.in-Left.is (h p)) c.open_left.ensures
