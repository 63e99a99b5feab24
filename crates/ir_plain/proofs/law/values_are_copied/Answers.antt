use Rattle.ir_plain.proofs.CopiesLemmas.{copies-give, operations-again}
use Rattle.ir_plain.proofs.WeightLemmas.{strip-weight}
use Rattle.ir_plain.proofs.law.values_are_copied.Goals as goal

pub returns-clause-same : goal.returns-clause-same
returns-clause-same g c = copies-give

pub returns-clause-again : goal.returns-clause-again
returns-clause-again g c = operations-again

pub returns-clause-weight : goal.returns-clause-weight
returns-clause-weight g c = strip-weight
