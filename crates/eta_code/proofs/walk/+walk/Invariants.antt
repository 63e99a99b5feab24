use Rattle.std.proofs.Common.{◌≡◌, ◌≤◌, ℕ, length}
use Rattle.ir_plain.specs.Tree as t
use Rattle.ir_mono.specs.Mono.{Mono}
use Rattle.eta_expand.specs.Expand.{Names}
use Rattle.eta_parts.specs.Reads.{Texts, steps_in}
use Rattle.eta_code.specs.Steps.{IsFronted}
use Rattle.eta_code.proofs.Building.{AttemptsSoFar, ArmsSoFar, FunctionsSoFar}
use Rattle.eta_code.proofs.Stepping.{StepsSoFar, OthersSoFar}
use Rattle.eta_code.proofs.walk.+walk.Given as goal

abbrev pub invariant-walk_all-loop-i : goal.invariant-walk_all-loop-i
invariant-walk_all-loop-i l = record {
  made : (strings : Texts) (d : Mono l.types)
      → AttemptsSoFar l.types strings l.fn.names l.attempts l.i l.made.items l.fn.next l.next d;
  names : l.names ≡ l.fn.names;
}

abbrev pub invariant-walk_arms-loop-i : goal.invariant-walk_arms-loop-i
invariant-walk_arms-loop-i l = record {
  made : (strings : Texts)
      → ArmsSoFar l.types strings l.fn.names l.arms l.i l.made.items l.fn.next l.next t.no_arms;
  names : l.names ≡ l.fn.names;
}

abbrev pub invariant-walk_functions-loop-i : goal.invariant-walk_functions-loop-i
invariant-walk_functions-loop-i l = record {
  made : (strings : Texts)
      → FunctionsSoFar l.types strings l.fn.names l.functions l.i l.made.items l.fn.next l.next t.no_funs;
  names : l.names ≡ l.fn.names;
}

abbrev pub invariant-walk_steps-loop-i : goal.invariant-walk_steps-loop-i
invariant-walk_steps-loop-i l =
    (strings : Texts) → StepsSoFar l.types strings l.steps l.i l.fn.names l.names l.fn.next l.next l.fn.made.items l.made.items l.fn.seen.items l.seen.items

abbrev pub invariant-walk_others-loop-left : goal.invariant-walk_others-loop-left
invariant-walk_others-loop-left l = record {
  within : l.left ≤ length l.steps;
  back : (strings : Texts) (N : Names) (n : ℕ) → IsFronted l.types N n l.fn.names l.seen (steps_in l.types strings l.fn.made.items) (steps_in l.types strings l.steps)
      → OthersSoFar l.types strings l.steps l.left N l.names n l.fn.next l.next l.made.items;
}

abbrev pub decreases-walk_others-loop-left : goal.decreases-walk_others-loop-left
decreases-walk_others-loop-left l = l.left
