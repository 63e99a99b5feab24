use Rattle.monomorphise.proofs.Kept.{copies-well-formed, copies-same, source-never}
use Rattle.monomorphise.proofs.law.copies_keep.Goals as goal

pub returns-clause-well_formed : goal.returns-clause-well_formed
returns-clause-well_formed c p q well copied once = copies-well-formed p q well copied once

pub returns-clause-same : goal.returns-clause-same
returns-clause-same c p q well copied m = copies-same p q well copied m

pub returns-clause-never_wrong : goal.returns-clause-never_wrong
returns-clause-never_wrong c p q well copied m e = source-never p q well copied m e
