use Rattle.ssa_build.proofs.Same.{program-same}
use Rattle.ssa_build.proofs.Scopes.{stays-well-formed}
use Rattle.ssa_build.proofs.Counts.{stays-small}
use Rattle.ssa_build.proofs.Binders.{binds-no-more}
use Rattle.ssa_build.proofs.Fits.{needs-no-more}
use Rattle.ssa_build.proofs.Exceptions.{makes-no-more}
use Rattle.ssa_build.proofs.law.ssa_build_keeps.Goals as goal

pub returns-clause-same : goal.returns-clause-same
returns-clause-same c = program-same

pub returns-clause-well_formed : goal.returns-clause-well_formed
returns-clause-well_formed c = stays-well-formed

pub returns-clause-small : goal.returns-clause-small
returns-clause-small c = stays-small

pub returns-clause-binders : goal.returns-clause-binders
returns-clause-binders c = binds-no-more

pub returns-clause-at_once : goal.returns-clause-at_once
returns-clause-at_once c = needs-no-more

pub returns-clause-exceptions : goal.returns-clause-exceptions
returns-clause-exceptions c = makes-no-more
