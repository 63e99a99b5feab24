use Rattle.std.proofs.Common.{◌≡◌, ◌^◌, ◌-◌, map, min, sum, take}
use Rattle.plain_tree.specs.Sums.{weight_of, step_weight, arm_weight, function_weight}
use Rattle.plain_tree.proofs.nodes.+nodes.Given as goal

abbrev pub invariant-nodes_of_all-loop-i : goal.invariant-nodes_of_all-loop-i
invariant-nodes_of_all-loop-i l = l.total ≡ min (sum (map weight_of (take l.i l.attempts))) (2 ^ 64 - 1)

abbrev pub invariant-nodes_of_arms-loop-i : goal.invariant-nodes_of_arms-loop-i
invariant-nodes_of_arms-loop-i l = l.total ≡ min (sum (map arm_weight (take l.i l.arms))) (2 ^ 64 - 1)

abbrev pub invariant-nodes_of_functions-loop-i : goal.invariant-nodes_of_functions-loop-i
invariant-nodes_of_functions-loop-i l = l.total ≡ min (sum (map function_weight (take l.i l.functions))) (2 ^ 64 - 1)

abbrev pub invariant-nodes_of_steps-loop-i : goal.invariant-nodes_of_steps-loop-i
invariant-nodes_of_steps-loop-i l = l.total ≡ min (sum (map step_weight (take l.i l.steps))) (2 ^ 64 - 1)
