use Rattle.std.proofs.Common.{◌≡◌, true, take}
use Rattle.ir_tables.specs.declared.tables.Tables.{Tables}
use Rattle.mono_state.specs.of_mono_words.Made.{all_bare}
use Rattle.mono_parts.specs.Steps.{steps_in}
use Rattle.mono_parts.proofs.steps.stripped.Given as goal

abbrev pub invariant-loop-i : goal.invariant-loop-i
invariant-loop-i l = (t : Tables) → all_bare true (take l.i (steps_in t l.steps)) ≡ true
