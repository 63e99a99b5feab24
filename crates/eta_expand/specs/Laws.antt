-- What is claimed of the expansion.
use Rattle.std.specs.Prelude.{◌≡◌, ℕ, []}
use Rattle.ir_mono.specs.Mono.{Program, meaning}
use Rattle.ir_mono.specs.Explicit.{IsExplicit}
use Rattle.ir_mono.specs.WellFormed.{IsWellFormed}
use Rattle.eta_expand.specs.Expand.{IsFresh, expanded}

-- it is well formed again
abbrev pub ExpandedWellFormed : Type 0
ExpandedWellFormed = (n : ℕ) (p : Program) → IsWellFormed p → IsFresh n p → IsWellFormed (expanded n p)

-- and has no function by itself
abbrev pub ExpandedExplicit : Type 0
ExpandedExplicit = (n : ℕ) (p : Program) → IsWellFormed p → IsExplicit p.types [] (expanded n p).body

-- it does the same
abbrev pub ExpandedSame : Type 0
ExpandedSame = (n : ℕ) (p : Program) → IsWellFormed p → IsFresh n p → (m : ℕ) → meaning (expanded n p) m ≡ meaning p m
