-- A substitution with no cycle gives each variable a weight, and only one.
use Rattle.std.specs.Prelude.{◌≡◌, ℕ, ◌+◌, suc, true, ⊤}
use Rattle.ty_table.specs.of_ty_core.Types.{Typ, var, con, Typs, none, more, labels}
use Rattle.ty_table.specs.of_ty_core.Marks.{is_inhabited}
use Rattle.ty_solve.specs.Substitution.{Entry, free, bound, row, is_below, are_below}
use Rattle.ty_solve.specs.Rows.{IsProper}

-- the weight of a type, where variables have weights
abbrev mutual
  pub weight : (ℕ → ℕ) → Typ → ℕ
  weight w (var v) = suc (w v)
  weight w (con h ts) = suc (weights w ts)

  pub weights : (ℕ → ℕ) → Typs → ℕ
  weights w none = 0
  weights w (more t ts) = weight w t + weights w ts

abbrev pub WeighsAt : (ℕ → ℕ) → ℕ → Entry → Type 0
WeighsAt w k (free e) = k ≡ 0
WeighsAt w k (bound t) = k ≡ suc (weight w t)
WeighsAt w k (row e ks us) = k ≡ suc (weight w (con (labels ks) us))

abbrev pub Weighs : (ℕ → ℕ) → (ℕ → Entry) → Type 0
Weighs w s = (v : ℕ) → WeighsAt w (w v) (s v)

-- no variable lies within its own type or fields
abbrev pub IsAcyclic : (ℕ → Entry) → Type 0
IsAcyclic s = (w : ℕ → ℕ) × Weighs w s

abbrev pub BelowAt : ℕ → Entry → Type 0
BelowAt n (free e) = ⊤
BelowAt n (bound t) = is_below n t ≡ true
BelowAt n (row e ks us) = are_below n us ≡ true

abbrev pub AreBelow : ℕ → (ℕ → Entry) → Type 0
AreBelow n s = (v : ℕ) → BelowAt n (s v)

-- no mark is a class without types, and no row has a label twice
abbrev pub InhabitedAt : Entry → Type 0
InhabitedAt (free k) = is_inhabited k ≡ true
InhabitedAt (bound t) = ⊤
InhabitedAt (row e ks us) = IsProper ks us

abbrev pub AreInhabited : (ℕ → Entry) → Type 0
AreInhabited s = (v : ℕ) → InhabitedAt (s v)
