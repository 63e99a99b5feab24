use Rattle.monomorphise.specs.Laws.{types_of}
use Rattle.monomorphise.specs.Monomorphise.{copies}
use Rattle.monomorphise.specs.Number.{none_given}
use Rattle.monomorphise.specs.Table.{number_in}
use Rattle.monomorphise.proofs.NumberedOnce.{numbers-rise}
use Rattle.monomorphise.proofs.Weights.{number-weight}
use Rattle.monomorphise.proofs.Whole.{makes-copies, makes-well-formed, makes-same, makes-never-wrong}
use Rattle.monomorphise.proofs.law.monomorphise_keeps.Goals as goal

pub returns-clause-copies : goal.returns-clause-copies
returns-clause-copies c p n well = makes-copies p well n

pub returns-clause-well_formed : goal.returns-clause-well_formed
returns-clause-well_formed c p n well = makes-well-formed p well n

pub returns-clause-same : goal.returns-clause-same
returns-clause-same c p n well m = makes-same p well n m

pub returns-clause-never_wrong : goal.returns-clause-never_wrong
returns-clause-never_wrong c p n well m e = makes-never-wrong p well n m e

pub returns-clause-rising : goal.returns-clause-rising
returns-clause-rising c p n = numbers-rise (types_of p) (number_in (types_of p)) (copies p.body)

pub returns-clause-weight : goal.returns-clause-weight
returns-clause-weight c p n = number-weight (types_of p) (number_in (types_of p)) (copies p.body) none_given 0
