-- The laws of runs.
use Rattle.std.proofs.Common.{◌≡◌, ℕ, zero, suc, Bool, true, false, if◌then◌else◌, List, [], ◌∷◌, ◌++◌, length, Option, slice_get, nat_lt, refl, ap, subst, sym, arith}
use Rattle.std.specs.Prelude.{slice_set}
use Rattle.mlc_runs.specs.Outcome.{End}
use Rattle.mlc_runs.specs.Run.{World, Answer, gives, raises, stops, start, then_do, or_handle, fail, take_turn, turn_from, writes, new_reference, dereference, or_fail, assign, new_exception, outcome_of, ends, uncaught_end}
use Rattle.mlc_runs.specs.Agreement.{AllRelated, none, more, BothOrNeither, neither, both, SameWorlds, Agree, both_give, both_raise, both_stop}
use Rattle.mlc_base.specs.declared.place.Place.{Place}

pub then_do-gives : {V A : Type 0} (r : Answer V A) → then_do r gives ≡ r
then_do-gives (gives a w) = refl
then_do-gives (raises p w) = refl
then_do-gives (stops cut w) = refl

pub then_do-then_do : {V A B C : Type 0} (r : Answer V A) (f : A → World V → Answer V B) (g : B → World V → Answer V C) → then_do (then_do r f) g ≡ then_do r (λ a w. then_do (f a w) g)
then_do-then_do (gives a w) f g = refl
then_do-then_do (raises p w) f g = refl
then_do-then_do (stops cut w) f g = refl

module _ {V W : Type 0} (R : V → W → Type 0) where
  pub ends-same : (w : World V) (u : World W) (e : End) {e' : End} → SameWorlds R w u → e' ≡ e → ends u e' ≡ ends w e
  ends-same w u e s same = λ i. record { output = s.output i; end = same i; turns = s.taken i }

  pub start-same : (turns : ℕ) → SameWorlds R (start turns) (start turns)
  start-same turns = record { output = refl; left = refl; taken = refl; store = none; exceptions = refl }

  pub writes-same : (bytes : List ℕ) (w : World V) (u : World W) → SameWorlds R w u → SameWorlds R (writes bytes w) (writes bytes u)
  writes-same bytes w u s = record { output = ap (λ o. o ++ bytes) s.output; left = s.left; taken = s.taken; store = s.store; exceptions = s.exceptions }

  pub length-same : {vs : List V} {ws : List W} → AllRelated R vs ws → length ws ≡ length vs
  length-same none = refl
  length-same (more r rs) = ap suc (length-same rs)

  pub push-same : {vs : List V} {ws : List W} {v : V} {w : W} → AllRelated R vs ws → R v w → AllRelated R (vs ++ v ∷ []) (ws ++ w ∷ [])
  push-same none r = more r none
  push-same (more q qs) r = more q (push-same qs r)

  pub slice_get-same : {vs : List V} {ws : List W} (at : ℕ) → AllRelated R vs ws → BothOrNeither R (slice_get vs at) (slice_get ws at)
  slice_get-same at none = neither
  slice_get-same zero (more r rs) = both r
  slice_get-same (suc at) (more r rs) = slice_get-same at rs

  pub slice_set-same : {vs : List V} {ws : List W} (at : ℕ) {v : V} {w : W} → AllRelated R vs ws → R v w → AllRelated R (slice_set vs at v) (slice_set ws at w)
  slice_set-same at none r = none
  slice_set-same zero (more q qs) r = more r qs
  slice_set-same (suc at) (more q qs) r = more q (slice_set-same at qs r)

  module _ {A B : Type 0} (S : A → B → Type 0) where
    pub then_do-agree : {C D : Type 0} (T : C → D → Type 0) {r : Answer V C} {r' : Answer W D} (go : C → World V → Answer V A) (go' : D → World W → Answer W B) → Agree R T r r' → ((c : C) (d : D) (w : World V) (u : World W) → T c d → SameWorlds R w u → Agree R S (go c w) (go' d u)) → Agree R S (then_do r go) (then_do r' go')
    then_do-agree T go go' (both_give t s) h = h _ _ _ _ t s
    then_do-agree T go go' (both_raise r s) h = both_raise r s
    then_do-agree T go go' (both_stop cut s) h = both_stop cut s

    pub or_handle-agree : {r : Answer V A} {r' : Answer W B} (go : V → World V → Answer V A) (go' : W → World W → Answer W B) → Agree R S r r' → ((p : V) (q : W) (w : World V) (u : World W) → R p q → SameWorlds R w u → Agree R S (go p w) (go' q u)) → Agree R S (or_handle r go) (or_handle r' go')
    or_handle-agree go go' (both_give t s) h = both_give t s
    or_handle-agree go go' (both_raise r s) h = h _ _ _ _ r s
    or_handle-agree go go' (both_stop cut s) h = both_stop cut s

    pub fail-agree : (w : World V) (u : World W) → SameWorlds R w u → Agree R S (fail w) (fail u)
    fail-agree w u s = both_stop _ s

    turn_from-agree : (n m : ℕ) (place : Place) (w : World V) (u : World W) (go : World V → Answer V A) (go' : World W → Answer W B) → m ≡ n → SameWorlds R w u → ((w' : World V) (u' : World W) → SameWorlds R w' u' → Agree R S (go w') (go' u')) → Agree R S (turn_from n place w go) (turn_from m place u go')
    turn_from-agree zero zero place w u go go' e s h = both_stop _ s
    turn_from-agree zero (suc m) place w u go go' e s h = absurd (omega arith)
    turn_from-agree (suc n) zero place w u go go' e s h = absurd (omega arith)
    turn_from-agree (suc n) (suc m) place w u go go' e s h = h _ _ (record { output = s.output; left = omega arith; taken = ap (λ t. t ++ place ∷ []) s.taken; store = s.store; exceptions = s.exceptions })

    pub take_turn-agree : (place : Place) (w : World V) (u : World W) (go : World V → Answer V A) (go' : World W → Answer W B) → SameWorlds R w u → ((w' : World V) (u' : World W) → SameWorlds R w' u' → Agree R S (go w') (go' u')) → Agree R S (take_turn place w go) (take_turn place u go')
    take_turn-agree place w u go go' s h = turn_from-agree w.left u.left place w u go go' s.left s h

    pub new_reference-agree : (v : V) (v' : W) (w : World V) (u : World W) (go : ℕ → World V → Answer V A) (go' : ℕ → World W → Answer W B) → R v v' → SameWorlds R w u → ((at : ℕ) (w' : World V) (u' : World W) → SameWorlds R w' u' → Agree R S (go at w') (go' at u')) → Agree R S (new_reference v w go) (new_reference v' u go')
    new_reference-agree v v' w u go go' r s h = rw (length-same s.store) (h _ _ _ (record { output = s.output; left = s.left; taken = s.taken; store = push-same s.store r; exceptions = s.exceptions }))

    or_fail-agree : {o : Option V} {o' : Option W} (w : World V) (u : World W) (go : V → Answer V A) (go' : W → Answer W B) → BothOrNeither R o o' → SameWorlds R w u → ((v : V) (v' : W) → R v v' → Agree R S (go v) (go' v')) → Agree R S (or_fail o w go) (or_fail o' u go')
    or_fail-agree w u go go' neither s h = both_stop _ s
    or_fail-agree w u go go' (both r) s h = h _ _ r

    pub dereference-agree : (at : ℕ) (w : World V) (u : World W) (go : V → Answer V A) (go' : W → Answer W B) → SameWorlds R w u → ((v : V) (v' : W) → R v v' → Agree R S (go v) (go' v')) → Agree R S (dereference at w go) (dereference at u go')
    dereference-agree at w u go go' s h = or_fail-agree w u go go' (slice_get-same at s.store) s h

    if-agree : (b : Bool) (r : Answer V A) (r' : Answer W B) (w : World V) (u : World W) → Agree R S r r' → SameWorlds R w u → Agree R S (if b then r else fail w) (if b then r' else fail u)
    if-agree true r r' w u h s = h
    if-agree false r r' w u h s = both_stop _ s

    pub assign-agree : (at : ℕ) (v : V) (v' : W) (w : World V) (u : World W) (go : World V → Answer V A) (go' : World W → Answer W B) → R v v' → SameWorlds R w u → ((w' : World V) (u' : World W) → SameWorlds R w' u' → Agree R S (go w') (go' u')) → Agree R S (assign at v w go) (assign at v' u go')
    assign-agree at v v' w u go go' r s h =
        rw (length-same s.store) (if-agree (nat_lt at (length w.store)) _ _ w u (h _ _ (record { output = s.output; left = s.left; taken = s.taken; store = slice_set-same at s.store r; exceptions = s.exceptions })) s)

    pub new_exception-agree : (identifier : ℕ) (w : World V) (u : World W) (go : ℕ → World V → Answer V A) (go' : ℕ → World W → Answer W B) → SameWorlds R w u → ((name : ℕ) (w' : World V) (u' : World W) → SameWorlds R w' u' → Agree R S (go name w') (go' name u')) → Agree R S (new_exception identifier w go) (new_exception identifier u go')
    new_exception-agree identifier w u go go' s h =
        let same : SameWorlds R (record w { exceptions = w.exceptions ++ identifier ∷ [] }) (record u { exceptions = u.exceptions ++ identifier ∷ [] }) = record { output = s.output; left = s.left; taken = s.taken; store = s.store; exceptions = ap (λ names. names ++ identifier ∷ []) s.exceptions } in
        let made : length u.exceptions ≡ length w.exceptions = ap length s.exceptions in
        subst (λ n. Agree R S (go (length w.exceptions) (record w { exceptions = w.exceptions ++ identifier ∷ [] })) (go' n (record u { exceptions = u.exceptions ++ identifier ∷ [] }))) (sym made) (h (length w.exceptions) _ _ same)

    -- runs that agree have one outcome
    pub outcome_of-agree : (name : V → World V → Option ℕ) (name' : W → World W → Option ℕ) {r : Answer V A} {r' : Answer W B} → ((p : V) (q : W) (w : World V) (u : World W) → R p q → SameWorlds R w u → name' q u ≡ name p w) → Agree R S r r' → outcome_of name' r' ≡ outcome_of name r
    outcome_of-agree name name' h (both_give x s) = ends-same _ _ _ s refl
    outcome_of-agree name name' h (both_raise r s) = ends-same _ _ _ s (ap uncaught_end (h _ _ _ _ r s))
    outcome_of-agree name name' h (both_stop cut s) = ends-same _ _ _ s refl
