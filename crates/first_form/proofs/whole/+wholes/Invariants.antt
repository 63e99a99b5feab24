use Rattle.std.proofs.Common.{◌↔◌, IsTrue, map, take}
use Rattle.std.specs.List.{AllByRecursion}
use Rattle.first_tree.specs.TreeOf.{step_of, arm_of}
use Rattle.ir_first.specs.Whole.{HasWhole}
use Rattle.first_form.specs.Scoped.{StepHasWhole}
use Rattle.first_form.proofs.whole.+wholes.Given as goal

abbrev pub invariant-steps_have_whole-loop-i : goal.invariant-steps_have_whole-loop-i
invariant-steps_have_whole-loop-i l = IsTrue l.all ↔ AllByRecursion StepHasWhole (map step_of (take l.i l.steps))

abbrev pub invariant-arms_have_whole-loop-i : goal.invariant-arms_have_whole-loop-i
invariant-arms_have_whole-loop-i l = IsTrue l.all ↔ AllByRecursion (λ a. HasWhole a.body) (map arm_of (take l.i l.arms))
