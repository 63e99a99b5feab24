use Rattle.match_compile.proofs.Keeps.{run-same}
use Rattle.match_compile.proofs.Weights.{run-weight}
use Rattle.match_compile.proofs.Programs.{well-formed, no-exception}
use Rattle.match_compile.proofs.law.programs_are_kept.Goals as goal

pub returns-clause-well_formed : goal.returns-clause-well_formed
returns-clause-well_formed c p h = well-formed p h

pub returns-clause-same : goal.returns-clause-same
returns-clause-same c p turns = run-same p.initial p.body turns

pub returns-clause-exceptions : goal.returns-clause-exceptions
returns-clause-exceptions c p = no-exception p

pub returns-clause-size : goal.returns-clause-size
returns-clause-size c p = run-weight p.body
