use Rattle.ir_explicit.proofs.Never.{explicit-never-wrong, explicit-same}
use Rattle.ir_explicit.proofs.law.only_closures_are_called.Goals as goal

pub returns-clause-never_wrong : goal.returns-clause-never_wrong
returns-clause-never_wrong c = explicit-never-wrong

pub returns-clause-same : goal.returns-clause-same
returns-clause-same c = explicit-same
