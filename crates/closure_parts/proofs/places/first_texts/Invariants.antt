use Rattle.std.proofs.Common.{◌≡◌, ◌≤◌, ◌+◌, ℕ, List, length, drop, unwrap_or}
use Rattle.std.specs.Map.{lookup}
use Rattle.flow_types.specs.of_closure_whole.Converted.{text_index}
use Rattle.closure_parts.specs.Indexed.{is_text, texts_of}
use Rattle.closure_parts.proofs.places.first_texts.Given as goal

abbrev pub invariant-loop-left : goal.invariant-loop-left
invariant-loop-left l = record {
  within : l.left ≤ length l.strings;
  placed : (s : List ℕ) → unwrap_or (lookup (is_text s) l.first.entries) (length l.strings) ≡ l.left + text_index s (texts_of (drop l.left l.strings));
}

abbrev pub decreases-loop-left : goal.decreases-loop-left
decreases-loop-left l = l.left
