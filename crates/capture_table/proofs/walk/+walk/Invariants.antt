use Rattle.std.proofs.Common.{◌≡◌, ◌≤◌, ◌++◌, length, map, take}
use Rattle.closure_convert.specs.Scope.{Scope}
use Rattle.capture_scope.specs.Seen.{members_of}
use Rattle.capture_scope.specs.Found.{pieces_of}
use Rattle.capture_table.specs.Told.{Entries, after, backs, marks, exp_told, step_told, arm_told, function_told}
use Rattle.capture_table.proofs.Walking.{AllSoFar, FunctionsSoFar, StepsSoFar}
use Rattle.capture_table.proofs.walk.+walk.Given as goal

abbrev pub invariant-walk_all-loop-i : goal.invariant-walk_all-loop-i
invariant-walk_all-loop-i l = record {
  table : AllSoFar exp_told l.attempts l.i l.fn.scope l.fn.found l.found l.found l.i;
  scope : l.scope ≡ l.fn.scope;
}

abbrev pub invariant-walk_arms-loop-i : goal.invariant-walk_arms-loop-i
invariant-walk_arms-loop-i l = record {
  table : AllSoFar arm_told l.arms l.i l.fn.scope l.fn.found l.found l.found l.i;
  scope : l.scope ≡ l.fn.scope;
}

abbrev pub invariant-walk_functions-loop-i : goal.invariant-walk_functions-loop-i
invariant-walk_functions-loop-i l = record {
  table : FunctionsSoFar function_told l.functions l.i (pieces_of l.capture.pieces.items) l.capture.captured.items (members_of l.group) l.fn.found l.found l.found l.i;
  captured : l.scope.captured ≡ l.capture.captured.items;
  group : l.scope.group ≡ members_of l.group;
}

abbrev pub invariant-walk_steps-loop-i : goal.invariant-walk_steps-loop-i
invariant-walk_steps-loop-i l = record {
  table : StepsSoFar step_told l.steps l.fn.scope l.fn.found l.found l.scope l.i;
  scope : l.scope ≡ after (map step_told (take l.i l.steps)) l.fn.scope;
  seen : l.seen.items ≡ l.fn.seen.items ++ marks (map step_told (take l.i l.steps)) l.fn.scope;
}

abbrev pub invariant-walk_others-loop-left : goal.invariant-walk_others-loop-left
invariant-walk_others-loop-left l = record {
  within : l.left ≤ length l.steps;
  table : (s : Scope) (es : Entries) → l.fn.scope ≡ after (map step_told l.steps) s → l.seen ≡ marks (map step_told l.steps) s
      → l.fn.found ++ backs (map step_told l.steps) s es ≡ l.found ++ backs (map step_told (take l.left l.steps)) s es;
  scope : (s : Scope) → l.fn.scope ≡ after (map step_told l.steps) s → l.seen ≡ marks (map step_told l.steps) s → l.scope ≡ after (map step_told (take l.left l.steps)) s;
}

abbrev pub decreases-walk_others-loop-left : goal.decreases-walk_others-loop-left
decreases-walk_others-loop-left l = l.left
