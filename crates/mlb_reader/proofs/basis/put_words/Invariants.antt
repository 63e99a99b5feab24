use Rattle.std.proofs.Common.{◌≡◌, ◌≤◌, ◌++◌, drop, length}
use Rattle.mlb_reader.specs.BasisOf.{directives_of}
use Rattle.mlb_reader.proofs.basis.put_words.Given as goal

abbrev pub invariant-words : goal.invariant-words
invariant-words l = record {
  put : l.fixities ≡ directives_of l.status (drop l.left l.words) ++ l.fn.fixities;
  within : l.left ≤ length l.words;
}

abbrev pub decreases-words : goal.decreases-words
decreases-words l = l.left
