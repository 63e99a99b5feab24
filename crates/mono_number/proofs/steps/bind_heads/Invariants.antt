use Rattle.std.proofs.Common.{◌≤◌, ◌+◌, ◌-◌, drop}
use Rattle.mono_number.specs.Moves.{BindsHeads}
use Rattle.mono_number.proofs.steps.bind_heads.Given as goal

abbrev pub invariant-loop-left : goal.invariant-loop-left
invariant-loop-left l = record {
  within : l.left ≤ l.count;
  heads : BindsHeads l.limit (drop (l.from + l.left) l.words) (l.count - l.left) l.fn.walk l.walk;
}

abbrev pub decreases-loop-left : goal.decreases-loop-left
decreases-loop-left l = l.left
