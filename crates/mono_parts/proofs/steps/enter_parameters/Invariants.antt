use Rattle.std.proofs.Common.{◌≡◌, ℕ, List, take}
use Rattle.ty_core.specs.Types.{Typ}
use Rattle.mono_state.specs.Seen.{Held, seen}
use Rattle.mono_state.specs.Going.{Goes}
use Rattle.mono_parts.specs.Steps.{parameters_entered}
use Rattle.mono_parts.proofs.steps.enter_parameters.Given as goal

abbrev pub invariant-loop-i : goal.invariant-loop-i
invariant-loop-i l = record {
  goes : (sources : List Typ) → Goes sources l.fn.copier l.copier;
  entered : (ss : List (List ℕ)) (H : Held) → seen ss H l.copier ≡ parameters_entered (take l.i l.parameters) (seen ss H l.fn.copier);
}
