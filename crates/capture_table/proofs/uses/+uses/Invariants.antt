use Rattle.std.proofs.Common.{◌≡◌, ◌++◌, map, take}
use Rattle.capture_table.specs.Told.{uses_of, steps_use, functions_use, exp_told, step_told, arm_told, function_told}
use Rattle.capture_table.proofs.uses.+uses.Given as goal

abbrev pub invariant-push_of_all-loop-i : goal.invariant-push_of_all-loop-i
invariant-push_of_all-loop-i l = l.uses.items ≡ l.fn.uses.items ++ uses_of (map exp_told (take l.i l.attempts))

abbrev pub invariant-push_of_arms-loop-i : goal.invariant-push_of_arms-loop-i
invariant-push_of_arms-loop-i l = l.uses.items ≡ l.fn.uses.items ++ uses_of (map arm_told (take l.i l.arms))

abbrev pub invariant-push_of_functions-loop-i : goal.invariant-push_of_functions-loop-i
invariant-push_of_functions-loop-i l = l.uses.items ≡ l.fn.uses.items ++ functions_use (map function_told (take l.i l.functions))

abbrev pub invariant-push_of_steps-loop-i : goal.invariant-push_of_steps-loop-i
invariant-push_of_steps-loop-i l = l.uses.items ≡ l.fn.uses.items ++ steps_use (map step_told (take l.i l.steps))
