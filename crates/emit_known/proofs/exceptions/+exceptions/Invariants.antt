use Rattle.std.proofs.Common.{map, take}
use Rattle.ssa_tree.specs.TreeOf.{arm_of, step_of}
use Rattle.emit_known.specs.Found.{Adds, arms_make, steps_make}
use Rattle.emit_known.proofs.exceptions.+exceptions.Given as goal

abbrev pub invariant-add_steps-loop-i : goal.invariant-add_steps-loop-i
invariant-add_steps-loop-i l = Adds l.fn.found.items (steps_make (map step_of (take l.i l.steps))) l.found.items

abbrev pub invariant-add_arms-loop-i : goal.invariant-add_arms-loop-i
invariant-add_arms-loop-i l = Adds l.fn.found.items (arms_make (map arm_of (take l.i l.arms))) l.found.items
