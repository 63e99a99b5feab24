use Rattle.std.proofs.Common.{◌≡◌, ◌++◌, map, take}
use Rattle.plain_tree.specs.Sums.{binders_of, step_binders, arm_binders, function_binders, joined}
use Rattle.plain_tree.proofs.binders.+binders.Given as goal

abbrev pub invariant-push_of_all-loop-i : goal.invariant-push_of_all-loop-i
invariant-push_of_all-loop-i l = l.found.items ≡ l.fn.found.items ++ joined (map binders_of (take l.i l.attempts))

abbrev pub invariant-push_of_arms-loop-i : goal.invariant-push_of_arms-loop-i
invariant-push_of_arms-loop-i l = l.found.items ≡ l.fn.found.items ++ joined (map arm_binders (take l.i l.arms))

abbrev pub invariant-push_of_functions-loop-i : goal.invariant-push_of_functions-loop-i
invariant-push_of_functions-loop-i l = l.found.items ≡ l.fn.found.items ++ joined (map function_binders (take l.i l.functions))

abbrev pub invariant-push_of_steps-loop-i : goal.invariant-push_of_steps-loop-i
invariant-push_of_steps-loop-i l = l.found.items ≡ l.fn.found.items ++ joined (map step_binders (take l.i l.steps))
