-- What was written, and counts of faults.
use Rattle.std.proofs.Common.{◌≡◌, ℕ, ◌≤◌, List, [], ◌++◌, Option, None, Some, refl, ap, append_assoc, append-nil, arith}
use Rattle.mlc_outside.specs.Faults.{Rose}
use Rattle.mlc_outside.specs.Sink.{adds}

-- one piece after another is the two as one
pub adds-append : (o : Option (List ℕ)) (a b : List ℕ) → adds (adds o a) b ≡ adds o (a ++ b)
adds-append None a b = refl
adds-append (Some w) a b = ap Some (append_assoc w a b)

-- nothing added
pub adds-none : (o : Option (List ℕ)) → adds o [] ≡ o
adds-none None = refl
adds-none (Some w) = ap Some (append-nil w)

-- a count that did not fall before it rose
pub rose_after : (a b c : ℕ) → a ≤ b → Rose b c → Rose a c
rose_after a b c le rose = omega arith
