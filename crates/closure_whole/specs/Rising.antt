-- The sets by type with their functions in rising order: at each spot all functions of its type.
use Rattle.std.specs.Prelude.{ℕ, zero, suc, Bool, false, List, [], ◌∷◌, length, Option, Some, None, nat_lt, if◌then◌else◌}
use Rattle.ir_mono.specs.Mono.{Program}
use Rattle.flow_sets.specs.Flow.{Flow}
use Rattle.flow_sets.specs.ByType.{Bound, bound_in, is_of, bound, type_at}

-- n variables from x on that are functions of type t
abbrev pub is_function : ℕ → Option Bound → Bool
is_function t None = false
is_function t (Some b) = is_of t b.what

abbrev pub functions_from : (t x n : ℕ) → List Bound → List ℕ
functions_from t x zero bs = []
functions_from t x (suc n) bs = if is_function t (bound_in x bs) then x ∷ functions_from t (suc x) n bs else functions_from t (suc x) n bs

-- more than each variable that is bound
abbrev pub larger : ℕ → ℕ → ℕ
larger x n = if nat_lt x n then n else suc x

abbrev pub above : List Bound → ℕ
above [] = zero
above (b ∷ bs) = larger b.variable (above bs)

-- of n types from t on
abbrev pub rising_from : (t n : ℕ) → List Bound → List (List ℕ)
rising_from t zero bs = []
rising_from t (suc n) bs = functions_from t zero (above bs) bs ∷ rising_from (suc t) n bs

abbrev pub rising : Program → Flow
rising p = record { sets = rising_from 0 (length p.types) (bound p.types p.body); number = type_at p.types (bound p.types p.body) }
