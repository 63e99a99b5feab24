use Rattle.std.proofs.Common.{◌≡◌, map, take, reverse}
use Rattle.closure_parts.proofs.places.numbers_of.Given as goal

abbrev pub invariant-loop-i : goal.invariant-loop-i
invariant-loop-i l = l.numbers.items ≡ map (λ e. e.0) (take l.i (reverse l.constructors))
