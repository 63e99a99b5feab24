use Rattle.std.proofs.Common.{ℕ, ◌<◌, get_or}
use Rattle.ssa_words.proofs.standard.are_standard.Given as goal

abbrev pub invariant-loop-i : goal.invariant-loop-i
invariant-loop-i l = (k : ℕ) → k < l.i → get_or l.found k 0 < 119
