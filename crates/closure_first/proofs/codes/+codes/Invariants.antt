use Rattle.std.proofs.Common.{◌≤◌, length}
use Rattle.flow_sets.specs.Flow.{Flow}
use Rattle.closure_convert.specs.Scope.{Table}
use Rattle.capture_scope.specs.Seen.{members_of}
use Rattle.closure_meaning.specs.Convert.{Numbering}
use Rattle.closure_bodies.specs.of_closure_parts.Settings.{Texts, Holds}
use Rattle.closure_first.specs.Codes.{IsOf}
use Rattle.closure_first.proofs.Adding.{SoFar, BackTo}
use Rattle.closure_first.proofs.Walking.{of_exp, of_front, of_back, of_arm, GroupSoFar}
use Rattle.closure_first.proofs.codes.+codes.Given as goal

abbrev pub invariant-push_all-loop-i : goal.invariant-push_all-loop-i
invariant-push_all-loop-i l =
    (strings : Texts) (n : Numbering) (F : Flow) (T : Table) → Holds l.setting l.types strings n F T → SoFar (of_exp n l.types strings F T) l.attempts l.fn.found.items l.found.items l.i

abbrev pub invariant-push_arms-loop-i : goal.invariant-push_arms-loop-i
invariant-push_arms-loop-i l =
    (strings : Texts) (n : Numbering) (F : Flow) (T : Table) → Holds l.setting l.types strings n F T → SoFar (of_arm n l.types strings F T) l.arms l.fn.found.items l.found.items l.i

abbrev pub invariant-push_fronts-loop-i : goal.invariant-push_fronts-loop-i
invariant-push_fronts-loop-i l =
    (strings : Texts) (n : Numbering) (F : Flow) (T : Table) → Holds l.setting l.types strings n F T → SoFar (of_front n l.types strings F T) l.steps l.fn.found.items l.found.items l.i

abbrev pub invariant-push_backs-loop-left : goal.invariant-push_backs-loop-left
invariant-push_backs-loop-left l = record {
  within : l.left ≤ length l.steps;
  found : (strings : Texts) (n : Numbering) (F : Flow) (T : Table) → Holds l.setting l.types strings n F T → BackTo (of_back n l.types strings F T) l.steps l.fn.found.items l.found.items l.left;
}

abbrev pub decreases-push_backs-loop-left : goal.decreases-push_backs-loop-left
decreases-push_backs-loop-left l = l.left

abbrev pub invariant-push_group-loop-i : goal.invariant-push_group-loop-i
invariant-push_group-loop-i l = record {
  of : (strings : Texts) (n : Numbering) (F : Flow) (T : Table) → Holds l.setting l.types strings n F T → IsOf T l.scope l.leader (members_of l.group.items);
  found : (strings : Texts) (n : Numbering) (F : Flow) (T : Table) → Holds l.setting l.types strings n F T
      → GroupSoFar n l.types strings F T l.functions l.leader (members_of l.group.items) l.fn.found.items l.found.items l.i;
}
