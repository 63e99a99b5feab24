use Rattle.std.proofs.Common.{◌≡◌, ◌≤◌, ◌+◌, map, drop}
use Rattle.mono_read.specs.of_mono_state.Seen.{Held, sign_of}
use Rattle.mono_number.specs.Walking.{head_count}
use Rattle.mono_number.specs.Moves.{Texts}
use Rattle.mono_number.proofs.steps.count_heads.Given as goal

abbrev pub invariant-loop-i : goal.invariant-loop-i
invariant-loop-i l = record {
  few : l.count ≤ l.i;
  heads : (strings : Texts) (H : Held) → head_count (map (sign_of strings H) (drop l.from l.words)) ≡ l.count + head_count (map (sign_of strings H) (drop l.i l.words));
}
