use Rattle.closure_whole.proofs.Whole.{rising-solve}
use Rattle.closure_whole.proofs.law.rising_sets_solve.Goals as goal

pub returns : goal.returns
returns c = rising-solve
