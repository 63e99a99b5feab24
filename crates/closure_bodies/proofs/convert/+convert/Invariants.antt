use Rattle.std.proofs.Common.{◌≡◌, [], drop}
use Rattle.flow_sets.specs.Flow.{Flow}
use Rattle.closure_convert.specs.Scope.{Table}
use Rattle.closure_meaning.specs.Convert.{Numbering}
use Rattle.closure_steps.specs.of_closure_parts.Settings.{Texts, Holds}
use Rattle.closure_steps.specs.Reads.{steps_in}
use Rattle.closure_steps.specs.Steps.{all_behind}
use Rattle.closure_bodies.proofs.Arms.{CasesSoFar, TagsSoFar}
use Rattle.closure_bodies.proofs.Loops.{StepsSoFar, AttemptsSoFar}
use Rattle.closure_bodies.proofs.convert.+convert.Given as goal

abbrev pub invariant-convert_steps-loop-i : goal.invariant-convert_steps-loop-i
invariant-convert_steps-loop-i l = record {
  made : (strings : Texts) (n : Numbering) (F : Flow) (T : Table) → Holds l.setting l.types strings n F T
      → StepsSoFar n l.types strings F T l.taken l.i l.fn.scope l.scope l.fn.steps.items l.steps.items;
  scope : (strings : Texts) → all_behind l.types (steps_in l.types strings (drop l.i l.taken)) l.scope ≡ all_behind l.types (steps_in l.types strings l.taken) l.fn.scope;
}

abbrev pub invariant-convert_attempts-loop-i : goal.invariant-convert_attempts-loop-i
invariant-convert_attempts-loop-i l = record {
  made : (strings : Texts) (n : Numbering) (F : Flow) (T : Table) → Holds l.setting l.types strings n F T
      → AttemptsSoFar n l.types strings F T l.attempts l.i l.fn.scope l.fn.steps.items l.steps.items;
  scope : l.scope ≡ l.fn.scope;
}

abbrev pub invariant-convert_cases-loop-i : goal.invariant-convert_cases-loop-i
invariant-convert_cases-loop-i l = record {
  made : (strings : Texts) (n : Numbering) (F : Flow) (T : Table) → Holds l.setting l.types strings n F T
      → CasesSoFar n l.types strings F T l.fn.scope l.atom l.ty l.arms l.i [] l.steps.items;
  scope : l.scope ≡ l.fn.scope;
}

abbrev pub invariant-convert_constructors-loop-i : goal.invariant-convert_constructors-loop-i
invariant-convert_constructors-loop-i l = record {
  made : (strings : Texts) (n : Numbering) (F : Flow) (T : Table) → Holds l.setting l.types strings n F T
      → TagsSoFar n l.types strings F T l.fn.scope l.atom l.ty l.arms l.from l.i l.made.items;
  scope : l.scope ≡ l.fn.scope;
}
