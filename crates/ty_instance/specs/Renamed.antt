-- Parameters of a scheme as new variables.
use Rattle.std.specs.Prelude.{ℕ, zero, suc, ◌+◌, ◌-◌, List, [], ◌∷◌, nat_lt, if◌then◌else◌}
use Rattle.ty_solve.specs.of_ty_core.Types.{Typ, var}

-- the first k variables of a body are the variables from n on, the others are free and counted from there
abbrev pub renamed : (n k : ℕ) → ℕ → Typ
renamed n k v = if nat_lt v k then var (n + v) else var (v - k)

-- the k variables from n on
abbrev pub variables_from : (n k : ℕ) → List Typ
variables_from n zero = []
variables_from n (suc k) = var n ∷ variables_from (suc n) k
