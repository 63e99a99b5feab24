-- What is claimed of programs with no function by itself.
use Rattle.std.specs.Prelude.{◌≡◌, ℕ, []}
use Rattle.mlc_runs.specs.Outcome.{wrong}
use Rattle.ir_mono.specs.Mono.{Program}
use Rattle.ir_mono.specs.Mono as mono
use Rattle.ir_mono.specs.Explicit.{IsExplicit}
use Rattle.ir_mono.specs.WellFormed.{IsWellFormed}
use Rattle.ir_explicit.specs.Explicit.{meaning}

-- a well formed one goes wrong at no number of turns, though nothing but closures may be called
abbrev pub ExplicitNeverWrong : Type 0
ExplicitNeverWrong = (p : Program) → IsWellFormed p → IsExplicit p.types [] p.body → (m : ℕ) → (meaning p m).end ≡ wrong → ⊥

-- so the two meanings are one
abbrev pub ExplicitSame : Type 0
ExplicitSame = (p : Program) → IsWellFormed p → IsExplicit p.types [] p.body → (m : ℕ) → mono.meaning p m ≡ meaning p m
