-- Reading through a substitution.
use Rattle.std.specs.Prelude.{◌≡◌, ◌≤◌, ℕ, true, ⊤}
use Rattle.ty_table.specs.of_ty_core.Types.{Typ, var, con}
use Rattle.ty_solve.specs.Substitution.{Entry, bound, is_open, sub, is_below, Fits}
use Rattle.ty_solve.specs.Weight.{weight}
use Rattle.ty_solve.specs.Forces.{Problem, Forces, Met, IsForced}

-- t is no bound variable
abbrev pub IsWalked : (ℕ → Entry) → Typ → Type 0
IsWalked s (var v) = is_open (s v) ≡ true
IsWalked s (con h ts) = ⊤

-- t is a variable that stands for u
abbrev pub StandsFor : (ℕ → Entry) → Typ → Typ → Type 0
StandsFor s (var v) u = s v ≡ bound u
StandsFor s (con h ts) u = ⊥

-- t reads as u through a substitution of n variables:
-- u is no bound variable, and has the value of t whatever solves the substitution
pub record Reads (n : ℕ) (s : ℕ → Entry) (w : ℕ → ℕ) (t u : Typ) : Type 0 where
  pub walked : IsWalked s u
  pub same : (f : ℕ → Typ) → Fits f s → sub f t ≡ sub f u
  pub in_bounds : is_below n t ≡ true → is_below n u ≡ true
  pub lighter : weight w u ≤ weight w t
  pub forced : (p : Problem) → IsForced p s → Forces p t u
  pub met : (p : Problem) → IsForced p s → Met p t → Met p u
