-- Record patterns with `...`: something else has to tell their further fields [Definition 4.11, restriction on flexible records].
use Rattle.std.specs.Prelude.{◌≡◌, ◌≤◌, ◌-◌, ℕ, zero, suc, Bool, true, false, if◌then◌else◌, List, [], ◌∷◌, slice_get, Some}
use Rattle.ty_core.specs.Types.{Typ, var, con}
use Rattle.ty_table.specs.TypeAt.{type_at}
use Rattle.elab_types.specs.of_ty_solve.Finding.{IsWalked}
use Rattle.elab_types.specs.of_ty_solve.Substitution.{Entry, Fits, bound, free, row, sub}
use Rattle.elab_state.specs.States.{said_in, types_in}
use Rattle.elab_state.specs.declared.state.State.{State}

-- what is said of a variable that stands for a record of which further fields may come to be known
abbrev pub is_row : Entry → Bool
is_row (free k) = false
is_row (bound t) = false
is_row (row e ks us) = true

-- no further fields may come to be known of a type that is no bound variable
abbrev pub is_settled : (ℕ → Entry) → Typ → Bool
is_settled s (var v) = if is_row (s v) then false else true
is_settled s (con h ts) = true

-- the type k is u in all that solves the state, and u is no bound variable
pub record StandsAs (S : State) (k : ℕ) (u : Typ) : Type 0 where
  pub same : (f : ℕ → Typ) → Fits f (said_in S) → sub f (type_at (types_in S) k) ≡ sub f u
  pub walked : IsWalked (said_in S) u

-- the fields of the type k are settled
abbrev pub HasSettledFields : State → ℕ → Type 0
HasSettledFields S k = (u : Typ) × (StandsAs S k u × (is_settled (said_in S) u ≡ true))

-- further fields of the type k may come to be known
abbrev pub IsFlexible : State → ℕ → Type 0
IsFlexible S k = (u : Typ) × (StandsAs S k u × (is_settled (said_in S) u ≡ false))

-- whether the i-th one is asked: those behind a list's end are
abbrev pub is_asked : List Bool → ℕ → Bool
is_asked [] i = true
is_asked (a ∷ as_) zero = a
is_asked (a ∷ as_) (suc i) = is_asked as_ i

-- each record pattern with `...` from the first one on has settled fields, of those that are asked
abbrev pub AreSettled : State → ℕ → List Bool → Type 0
AreSettled S first asked = (i k : ℕ) → first ≤ i → slice_get S.flexible.items i ≡ Some k → is_asked asked (i - first) ≡ true → HasSettledFields S k

-- one of them hasn't
pub record OneIsFlexible (S : State) (first : ℕ) (asked : List Bool) : Type 0 where
  pub at : ℕ
  pub ty : ℕ
  pub behind : first ≤ at
  pub is : slice_get S.flexible.items at ≡ Some ty
  pub asks : is_asked asked (at - first) ≡ true
  pub flexible : IsFlexible S ty
