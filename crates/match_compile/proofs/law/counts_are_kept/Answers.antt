use Rattle.std.proofs.Common.{[]}
use Rattle.match_compile.proofs.Weights.{run-weight}
use Rattle.match_compile.proofs.Made.{run-made}
use Rattle.match_compile.proofs.law.counts_are_kept.Goals as goal

pub returns-clause-weight : goal.returns-clause-weight
returns-clause-weight c ds = run-weight ds

pub returns-clause-exceptions : goal.returns-clause-exceptions
returns-clause-exceptions c ds = run-made ds []
