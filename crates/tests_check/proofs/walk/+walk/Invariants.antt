use Rattle.std.proofs.Common.{◌≡◌, true, map, take}
use Rattle.ir_known.specs.Knows.{marks_of}
use Rattle.plain_tree.specs.TreeOf.{step_of}
use Rattle.tests_check.specs.Reads.{reading}
use Rattle.tests_check.specs.Walk.{IsExp, IsArm, IsFunction, Each}
use Rattle.tests_check.proofs.Steps.{Along}
use Rattle.tests_check.proofs.walk.+walk.Given as goal

abbrev pub invariant-attempts_fit-loop-i : goal.invariant-attempts_fit-loop-i
invariant-attempts_fit-loop-i l = record {
  each : Each (λ e. IsExp l.tables true (marks_of l.fn.marks) l.fn.scope e l.ty) (take l.i l.attempts);
  marks : marks_of l.marks ≡ marks_of l.fn.marks;
  scope : l.scope ≡ l.fn.scope;
}

abbrev pub invariant-arms_fit-loop-i : goal.invariant-arms_fit-loop-i
invariant-arms_fit-loop-i l = record {
  each : Each (IsArm l.tables (marks_of l.fn.marks) l.fn.scope l.of l.ty) (take l.i l.arms);
  marks : marks_of l.marks ≡ marks_of l.fn.marks;
  scope : l.scope ≡ l.fn.scope;
}

abbrev pub invariant-functions_fit-loop-i : goal.invariant-functions_fit-loop-i
invariant-functions_fit-loop-i l = record {
  each : Each (IsFunction l.tables (marks_of l.fn.marks) l.fn.scope) (take l.i l.functions);
  marks : marks_of l.marks ≡ marks_of l.fn.marks;
  scope : l.scope ≡ l.fn.scope;
}

abbrev pub invariant-steps_bring-loop-i : goal.invariant-steps_bring-loop-i
invariant-steps_bring-loop-i l = record {
  along : Along l.tables l.misses (marks_of l.fn.marks) l.ty l.fn.scope l.scope (map (step_of (reading l.tables)) l.steps) l.i;
  marks : marks_of l.marks ≡ marks_of l.fn.marks;
}
