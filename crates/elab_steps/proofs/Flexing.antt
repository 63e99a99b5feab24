-- Record patterns with `...`: which of them have settled fields, so far.
use Rattle.std.proofs.Common.{◌≡◌, ◌<◌, ◌≤◌, ◌-◌, ℕ, zero, suc, Bool, true, List, [], ◌∷◌, length, slice_get, slice_index_or, Some, refl, arith}
use Rattle.elab_state.specs.declared.state.State.{State}
use Rattle.elab_steps.specs.Flexible.{HasSettledFields, is_asked}

abbrev pub SettledBefore : State → ℕ → List Bool → ℕ → Type 0
SettledBefore S first asked n = (i k : ℕ) → first ≤ i → i < n → slice_get S.flexible.items i ≡ Some k → is_asked asked (i - first) ≡ true → HasSettledFields S k

pub asked-at : (as_ : List Bool) (i : ℕ) (d : Bool) → i < length as_ → slice_index_or as_ i d ≡ is_asked as_ i
asked-at [] i d lt = absurd (omega (arith, lt))
asked-at (a ∷ as_) zero d lt = refl
asked-at (a ∷ as_) (suc i) d lt = asked-at as_ i d (omega (arith, lt))

pub asked-past : (as_ : List Bool) (i : ℕ) → length as_ ≤ i → is_asked as_ i ≡ true
asked-past [] i le = refl
asked-past (a ∷ as_) zero le = absurd (omega (arith, le))
asked-past (a ∷ as_) (suc i) le = asked-past as_ i (omega (arith, le))
