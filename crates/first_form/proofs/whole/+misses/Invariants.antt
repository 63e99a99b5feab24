use Rattle.std.proofs.Common.{◌≡◌, map, take}
use Rattle.first_tree.specs.TreeOf.{step_of}
use Rattle.first_form.specs.Scoped.{steps_may_miss}
use Rattle.first_form.proofs.whole.+misses.Given as goal

abbrev pub invariant-any_may_miss-loop-i : goal.invariant-any_may_miss-loop-i
invariant-any_may_miss-loop-i l = l.any ≡ steps_may_miss (map step_of (take l.i l.steps))
