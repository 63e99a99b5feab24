use Rattle.match_compile.proofs.Once.{run-once}
use Rattle.match_compile.proofs.Local.{run-local}
use Rattle.match_compile.proofs.law.variables_are_bound.Goals as goal

pub returns-clause-once : goal.returns-clause-once
returns-clause-once c ds = run-once ds

pub returns-clause-local : goal.returns-clause-local
returns-clause-local c ds = run-local ds
