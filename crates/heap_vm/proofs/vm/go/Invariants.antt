use Rattle.heap_vm.specs.View.{state_of, Fits}
use Rattle.heap_vm.proofs.Runs.{OnTheWay}
use Rattle.heap_vm.proofs.vm.go.Given as goal

abbrev pub invariant-loop-left : goal.invariant-loop-left
invariant-loop-left g l = record {
  way : OnTheWay l.code (state_of l.fn.from l.fn.stack l.fn.memory) l.steps l.left (state_of l.registers l.stack l.memory) (g.O.Sink.written l.fn.out) (g.O.Sink.written l.out) (g.O.Sink.faults l.fn.out) (g.O.Sink.faults l.out);
  fits : Fits l.registers l.stack l.memory;
}

abbrev pub decreases-loop-left : goal.decreases-loop-left
decreases-loop-left g l = l.left
