use Rattle.std.proofs.Common.{length, ◌-◌, ◌≡◌, ◌≤◌, take}
use Rattle.mlc_outside.specs.Sink.{adds}
use Rattle.heap_vm.proofs.send.send.Given as goal

abbrev pub invariant-loop-i : goal.invariant-loop-i
invariant-loop-i g l =
    (l.i ≤ length l.words)
    × (g.O.Sink.written l.out ≡ adds (g.O.Sink.written l.fn.out) (take l.i l.words))
    × (g.O.Sink.faults l.fn.out ≤ g.O.Sink.faults l.out)

abbrev pub decreases-loop-i : goal.decreases-loop-i
decreases-loop-i g l = length l.words - l.i
