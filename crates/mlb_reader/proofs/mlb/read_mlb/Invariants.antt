use Rattle.std.proofs.Common.{◌≤◌, ◌-◌, length, map}
use Rattle.mlb_reader.specs.MlbOf.{item_of}
use Rattle.mlb_reader.proofs.MlbLemmas.{ReadTo}
use Rattle.mlb_reader.proofs.mlb.read_mlb.Given as goal

abbrev pub invariant-words : goal.invariant-words
invariant-words l = record {
  read : ReadTo l.bytes (map item_of l.items.items) l.at;
  within : l.at ≤ length l.bytes;
}

abbrev pub decreases-words : goal.decreases-words
decreases-words l = length l.bytes - l.at
