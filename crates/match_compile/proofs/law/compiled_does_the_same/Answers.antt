use Rattle.match_compile.proofs.Keeps.{run-same}
use Rattle.match_compile.proofs.law.compiled_does_the_same.Goals as goal

pub returns : goal.returns
returns c ds initial turns = run-same initial ds turns
