use Rattle.std.proofs.Common.{◌≤◌, length}
use Rattle.ssa_words.proofs.build.Builder.arms.Given as goal

abbrev pub invariant-loop-left : goal.invariant-loop-left
invariant-loop-left l = l.left ≤ length l.tags

abbrev pub decreases-loop-left : goal.decreases-loop-left
decreases-loop-left l = l.left
