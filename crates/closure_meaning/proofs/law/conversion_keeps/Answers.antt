use Rattle.closure_meaning.proofs.Run.{conversion-keeps, conversion-same, conversion-by-type}
use Rattle.closure_meaning.proofs.law.conversion_keeps.Goals as goal

pub returns-clause-unless_wrong : goal.returns-clause-unless_wrong
returns-clause-unless_wrong c = conversion-keeps

pub returns-clause-well_formed : goal.returns-clause-well_formed
returns-clause-well_formed c = conversion-same

pub returns-clause-by_type : goal.returns-clause-by_type
returns-clause-by_type c = conversion-by-type
