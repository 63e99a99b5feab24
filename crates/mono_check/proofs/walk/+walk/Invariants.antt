use Rattle.std.proofs.Common.{◌≡◌, map}
use Rattle.plain_tree.specs.TreeOf.{step_of}
use Rattle.mono_operations.specs.Reads.{reading}
use Rattle.mono_check.proofs.Exps.{AttemptsLeft, ArmsLeft, FunctionsLeft}
use Rattle.mono_check.proofs.Steps.{Along}
use Rattle.mono_check.proofs.walk.+walk.Given as goal

abbrev pub invariant-attempts_fit-loop-i : goal.invariant-attempts_fit-loop-i
invariant-attempts_fit-loop-i l = record {
  left : AttemptsLeft l.tables l.fn.scope l.ty l.attempts l.i;
  scope : l.scope ≡ l.fn.scope;
}

abbrev pub invariant-arms_fit-loop-i : goal.invariant-arms_fit-loop-i
invariant-arms_fit-loop-i l = record {
  left : ArmsLeft l.tables l.fn.scope l.of l.ty l.arms l.i;
  scope : l.scope ≡ l.fn.scope;
}

abbrev pub invariant-functions_fit-loop-i : goal.invariant-functions_fit-loop-i
invariant-functions_fit-loop-i l = record {
  left : FunctionsLeft l.tables l.fn.scope l.functions l.i;
  scope : l.scope ≡ l.fn.scope;
}

abbrev pub invariant-steps_bring-loop-i : goal.invariant-steps_bring-loop-i
invariant-steps_bring-loop-i l = Along l.tables l.misses l.ty l.fn.scope l.scope (map (step_of (reading l.tables)) l.steps) l.i
