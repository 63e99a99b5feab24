use Rattle.std.proofs.Common.{◌≡◌, ◌≤◌}
use Rattle.sml_lexer.specs.ReservedWords.{free_len}
use Rattle.sml_lexer.proofs.reserved.free_len.Given as goal

abbrev pub invariant-loop-free : goal.invariant-loop-free
invariant-loop-free l = record { within : l.free ≤ l.len; same : free_len l.words l.free l.text ≡ free_len l.words l.len l.text }

abbrev pub decreases-loop-free : goal.decreases-loop-free
decreases-loop-free l = l.free
