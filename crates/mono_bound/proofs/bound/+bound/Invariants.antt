use Rattle.std.proofs.Common.{◌≡◌, ◌≤◌, ◌++◌, length, map, take, drop}
use Rattle.mono_bound.specs.Bound.{exp_bound, step_bound, arm_bound, function_bound, joined, fronts, backs}
use Rattle.mono_bound.proofs.bound.+bound.Given as goal

abbrev pub invariant-push_all-loop-i : goal.invariant-push_all-loop-i
invariant-push_all-loop-i l = l.found.items ≡ l.fn.found.items ++ joined (map (exp_bound l.types) (take l.i l.attempts))

abbrev pub invariant-push_arms-loop-i : goal.invariant-push_arms-loop-i
invariant-push_arms-loop-i l = l.found.items ≡ l.fn.found.items ++ joined (map (arm_bound l.types) (take l.i l.arms))

abbrev pub invariant-push_functions-loop-i : goal.invariant-push_functions-loop-i
invariant-push_functions-loop-i l = l.found.items ≡ l.fn.found.items ++ joined (map (function_bound l.types) (take l.i l.functions))

abbrev pub invariant-push_before-loop-i : goal.invariant-push_before-loop-i
invariant-push_before-loop-i l = l.found.items ≡ l.fn.found.items ++ fronts (map (step_bound l.types) (take l.i l.steps))

abbrev pub invariant-push_after-loop-left : goal.invariant-push_after-loop-left
invariant-push_after-loop-left l = record { within : l.left ≤ length l.steps; found : l.found.items ≡ l.fn.found.items ++ backs (map (step_bound l.types) (drop l.left l.steps)) }

abbrev pub decreases-push_after-loop-left : goal.decreases-push_after-loop-left
decreases-push_after-loop-left l = l.left
