use Rattle.std.proofs.Common.{◌≡◌, ◌≤◌, ◌-◌, ◌+◌, drop, length}
use Rattle.std.specs.List.{prefix_len}
use Rattle.mlb_reader.specs.Reading.{is_no_blank}
use Rattle.mlb_reader.proofs.mlb.word_len.Given as goal

abbrev pub invariant-loop-len : goal.invariant-loop-len
invariant-loop-len l = (l.len ≤ length l.text) × (prefix_len is_no_blank l.text ≡ l.len + prefix_len is_no_blank (drop l.len l.text))

abbrev pub decreases-loop-len : goal.decreases-loop-len
decreases-loop-len l = length l.text - l.len
