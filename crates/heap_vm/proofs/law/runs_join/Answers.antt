use Rattle.heap_vm.proofs.Pieces.{runs-join}
use Rattle.heap_vm.proofs.law.runs_join.Goals as goal

pub returns : goal.returns
returns c = runs-join
