use Rattle.std.proofs.Common.{◌≤◌, length, take, drop, reverse, true}
use Rattle.mono_copy.specs.Puts.{Puts}
use Rattle.mono_copy.specs.Changes.{each_put, attempt_put, arm_put, steps_entered, binding_put, group_put}
use Rattle.mono_words.specs.Words.{end_sign}
use Rattle.mono_words.specs.Seen.{with_sign}
use Rattle.mono_copy.proofs.Changing.{then_}
use Rattle.mono_copy.proofs.Walking.{left_from, body_put}
use Rattle.mono_copy.proofs.walk.+walk.Given as goal

abbrev pub invariant-enter_steps-loop-i : goal.invariant-enter_steps-loop-i
invariant-enter_steps-loop-i l = Puts l.tables (steps_entered l.tables l.strip (take l.i l.steps)) l.fn.copier l.copier

abbrev pub invariant-leave_steps-loop-left : goal.invariant-leave_steps-loop-left
invariant-leave_steps-loop-left l = record {
  within : l.left ≤ length l.steps;
  put : Puts l.tables (left_from l.tables l.strip l.steps l.left) l.fn.copier l.copier;
}

abbrev pub decreases-leave_steps-loop-left : goal.decreases-leave_steps-loop-left
decreases-leave_steps-loop-left l = l.left

abbrev pub invariant-put_arms-loop-left : goal.invariant-put_arms-loop-left
invariant-put_arms-loop-left l = record {
  within : l.left ≤ length l.arms;
  put : Puts l.tables (then_ (λ H g s n. with_sign end_sign n) (each_put (arm_put l.tables l.strip) (drop l.left l.arms))) l.fn.copier l.copier;
}

abbrev pub decreases-put_arms-loop-left : goal.decreases-put_arms-loop-left
decreases-put_arms-loop-left l = l.left

abbrev pub invariant-put_attempts-loop-left : goal.invariant-put_attempts-loop-left
invariant-put_attempts-loop-left l = record {
  within : l.left ≤ length l.attempts;
  put : Puts l.tables (each_put (attempt_put l.tables l.strip) (drop l.left l.attempts)) l.fn.copier l.copier;
}

abbrev pub decreases-put_attempts-loop-left : goal.decreases-put_attempts-loop-left
decreases-put_attempts-loop-left l = l.left

abbrev pub invariant-put_bodies-loop-left : goal.invariant-put_bodies-loop-left
invariant-put_bodies-loop-left l = record {
  within : l.left ≤ length l.functions;
  put : Puts l.tables (each_put (body_put l.tables) (drop l.left l.functions)) l.fn.copier l.copier;
}

abbrev pub decreases-put_bodies-loop-left : goal.decreases-put_bodies-loop-left
decreases-put_bodies-loop-left l = l.left

abbrev pub invariant-put_further-loop-i : goal.invariant-put_further-loop-i
invariant-put_further-loop-i l = Puts l.tables (each_put (binding_put l.tables true l.binding l.step) (reverse (take l.i l.lists))) l.fn.copier l.copier

abbrev pub invariant-put_further_groups-loop-i : goal.invariant-put_further_groups-loop-i
invariant-put_further_groups-loop-i l = Puts l.tables (each_put (group_put l.tables l.parameters l.functions) (reverse (take l.i l.lists))) l.fn.copier l.copier
