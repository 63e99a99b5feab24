-- What simple types give.
use Rattle.std.specs.Prelude.{◌≡◌, ℕ, Bool, true, List, [], Some}
use Rattle.ir_poly.specs.of_mlc_runs.Outcome.{wrong}
use Rattle.ir_poly.specs.of_ir_plain.Scoped.{IsBound}
use Rattle.ir_poly.specs.of_ir_values.Equality.{same_at}
use Rattle.ir_poly.specs.of_ir_plain.Meaning.{V}
use Rattle.ir_mono.specs.Types.{Row, IsTable, admits, by_number}
use Rattle.ir_mono.specs.Mono.{mono, Program, meaning}
use Rattle.ir_mono.specs.Values.{Shape, ValueTyped}
use Rattle.ir_mono.specs.WellFormed.{IsWellFormed}

-- a well formed program goes wrong at no number of turns
abbrev pub NeverWrong : Type 0
NeverWrong = (p : Program) → IsWellFormed p → (m : ℕ) → (meaning p m).end ≡ wrong → ⊥

-- each variable that it names is bound around
abbrev pub AllBound : Type 0
AllBound = (p : Program) → IsWellFormed p → IsBound (mono p.types) [] p.body

-- two values of a type that admits equality are equal or not
abbrev pub EqualityAnswers : Type 0
EqualityAnswers =
    (types : List Row) → IsTable types → (S : Shape) (n : ℕ) (v u : V (mono types)) → ValueTyped types S v n → ValueTyped types S u n → admits types n ≡ true
    → (b : Bool) × (same_at (by_number types) n v u ≡ Some b)
