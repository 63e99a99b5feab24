use Rattle.ssa_exceptions.proofs.Made.{uncaught-is-made}
use Rattle.ssa_exceptions.proofs.law.uncaught_is_made.Goals as goal

pub returns : goal.returns
returns c = uncaught-is-made
