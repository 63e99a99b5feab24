-- Which variables become parameters where a declaration ends.
use Rattle.std.specs.Prelude.{◌&&◌, ℕ, zero, suc, Bool, not, nat_lt, if◌then◌else◌, List, [], ◌∷◌, ◌++◌, Option, Some, None, option_and_then}
use Rattle.ty_core.specs.declared.scheme.Quantified.{Quantified}
use Rattle.ty_solve.specs.Substitution.{Entry, free, bound, row}
use Rattle.ty_solve.specs.declared.limit.Limit.{Limit}
use Rattle.ir_poly.specs.Types.{is_declarable}
use Rattle.elab_state.specs.States.{dead_level}

-- a variable was made inside more than l declarations, and is not done with
abbrev pub is_inner : ℕ → Limit → Bool
is_inner l b = nat_lt l b.level && nat_lt b.level dead_level

-- an open variable is one parameter more; one of a class, and a row, may be none
abbrev pub added : ℕ → Entry → List Quantified → Option (List Quantified)
added v (free k) qs = if is_declarable k then Some (qs ++ (record { variable = v; mark = k }) ∷ []) else None
added v (bound t) qs = Some qs
added v (row e ks us) qs = None

-- the parameters among variables below n, the first being the next one to look at
abbrev pub collected : (ℕ → Entry) → (ℕ → Limit) → ℕ → ℕ → ℕ → Option (List Quantified)
collected s b l first zero = Some []
collected s b l first (suc v) = option_and_then (λ qs. if not (nat_lt v first) && is_inner l (b v) then added v (s v) qs else Some qs) (collected s b l first v)

-- the limit of a variable afterwards
abbrev pub ended : ℕ → Limit → Limit
ended l b = if nat_lt l b.level then record { names = b.names; level = dead_level } else b

abbrev pub ended_at : ℕ → ℕ → ℕ → Limit → Limit
ended_at l first v b = if nat_lt v first then b else ended l b
