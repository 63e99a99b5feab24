-- Answers that agree, where packets are related by P and what the store has by R.
use Rattle.std.proofs.Common.{◌≡◌, ℕ, zero, suc, Bool, true, false, if◌then◌else◌, [], ◌∷◌, ◌++◌, length, Option, nat_lt, refl, ap, subst, sym, arith}
use Rattle.mlc_runs.specs.Run.{World, Cut, Answer, gives, raises, stops, then_do, or_handle, fail, take_turn, turn_from, new_reference, assign, new_exception, outcome_of, uncaught_end}
use Rattle.mlc_runs.specs.Agreement.{SameWorlds}
use Rattle.mlc_base.specs.declared.place.Place.{Place}
use Rattle.mlc_runs.proofs.RunLaws.{ends-same, length-same, push-same, slice_set-same}

module _ {V W : Type 0} (P R : V → W → Type 0) where
  module _ {A B : Type 0} (S : A → B → Type 0) where
    pub data Agree : Answer V A → Answer W B → Type 0 where
      both_give : {a : A} {b : B} {w : World V} {u : World W} → S a b → SameWorlds R w u → Agree (gives a w) (gives b u)
      both_raise : {p : V} {q : W} {w : World V} {u : World W} → P p q → SameWorlds R w u → Agree (raises p w) (raises q u)
      both_stop : (cut : Cut) {w : World V} {u : World W} → SameWorlds R w u → Agree (stops cut w) (stops cut u)

  module _ {A B : Type 0} (S : A → B → Type 0) where
    pub then_do-agree : {C D : Type 0} (T : C → D → Type 0) {r : Answer V C} {r' : Answer W D} (go : C → World V → Answer V A)
        (go' : D → World W → Answer W B) → Agree T r r' → ((c : C) (d : D) (w : World V) (u : World W) → T c d → SameWorlds R w u
        → Agree S (go c w) (go' d u)) → Agree S (then_do r go) (then_do r' go')
    then_do-agree T go go' (both_give t s) h = h _ _ _ _ t s
    then_do-agree T go go' (both_raise r s) h = both_raise r s
    then_do-agree T go go' (both_stop cut s) h = both_stop cut s

    pub or_handle-agree : {r : Answer V A} {r' : Answer W B} (go : V → World V → Answer V A) (go' : W → World W → Answer W B) → Agree S r r'
        → ((p : V) (q : W) (w : World V) (u : World W) → P p q → SameWorlds R w u → Agree S (go p w) (go' q u)) → Agree S (or_handle r go) (or_handle r' go')
    or_handle-agree go go' (both_give t s) h = both_give t s
    or_handle-agree go go' (both_raise r s) h = h _ _ _ _ r s
    or_handle-agree go go' (both_stop cut s) h = both_stop cut s

    turn_from-agree : (n m : ℕ) (place : Place) (w : World V) (u : World W) (go : World V → Answer V A) (go' : World W → Answer W B) → m ≡ n
        → SameWorlds R w u → ((w' : World V) (u' : World W) → SameWorlds R w' u' → Agree S (go w') (go' u'))
        → Agree S (turn_from n place w go) (turn_from m place u go')
    turn_from-agree zero zero place w u go go' e s h = both_stop _ s
    turn_from-agree zero (suc m) place w u go go' e s h = absurd (omega arith)
    turn_from-agree (suc n) zero place w u go go' e s h = absurd (omega arith)
    turn_from-agree (suc n) (suc m) place w u go go' e s h = h _ _
        (record { output = s.output; left = omega arith; taken = ap (λ t. t ++ place ∷ []) s.taken; store = s.store; exceptions = s.exceptions })

    pub take_turn-agree : (place : Place) (w : World V) (u : World W) (go : World V → Answer V A) (go' : World W → Answer W B) → SameWorlds R w u
        → ((w' : World V) (u' : World W) → SameWorlds R w' u' → Agree S (go w') (go' u')) → Agree S (take_turn place w go) (take_turn place u go')
    take_turn-agree place w u go go' s h = turn_from-agree w.left u.left place w u go go' s.left s h

    pub new_reference-agree : (v : V) (v' : W) (w : World V) (u : World W) (go : ℕ → World V → Answer V A) (go' : ℕ → World W → Answer W B) → R v v'
        → SameWorlds R w u → ((at : ℕ) (w' : World V) (u' : World W) → SameWorlds R w' u' → Agree S (go at w') (go' at u'))
        → Agree S (new_reference v w go) (new_reference v' u go')
    new_reference-agree v v' w u go go' r s h = rw (length-same R s.store)
        (h _ _ _ (record { output = s.output; left = s.left; taken = s.taken; store = push-same R s.store r; exceptions = s.exceptions }))

    if-agree : (b : Bool) (r : Answer V A) (r' : Answer W B) (w : World V) (u : World W) → Agree S r r' → SameWorlds R w u
        → Agree S (if b then r else fail w) (if b then r' else fail u)
    if-agree true r r' w u h s = h
    if-agree false r r' w u h s = both_stop _ s

    pub assign-agree : (at : ℕ) (v : V) (v' : W) (w : World V) (u : World W) (go : World V → Answer V A) (go' : World W → Answer W B) → R v v'
        → SameWorlds R w u → ((w' : World V) (u' : World W) → SameWorlds R w' u' → Agree S (go w') (go' u')) → Agree S (assign at v w go) (assign at v' u go')
    assign-agree at v v' w u go go' r s h =
        rw (length-same R s.store) (if-agree (nat_lt at (length w.store)) _ _ w u
        (h _ _ (record { output = s.output; left = s.left; taken = s.taken; store = slice_set-same R at s.store r; exceptions = s.exceptions })) s)

    pub new_exception-agree : (identifier : ℕ) (w : World V) (u : World W) (go : ℕ → World V → Answer V A) (go' : ℕ → World W → Answer W B)
        → SameWorlds R w u → ((name : ℕ) (w' : World V) (u' : World W) → SameWorlds R w' u' → Agree S (go name w') (go' name u'))
        → Agree S (new_exception identifier w go) (new_exception identifier u go')
    new_exception-agree identifier w u go go' s h =
        let same : SameWorlds R (record w { exceptions = w.exceptions ++ identifier ∷ [] })
        (record u { exceptions = u.exceptions ++ identifier ∷ [] }) = record
        { output = s.output; left = s.left; taken = s.taken; store = s.store; exceptions = ap (λ names. names ++ identifier ∷ []) s.exceptions } in
        let made : length u.exceptions ≡ length w.exceptions = ap length s.exceptions in
        subst (λ n. Agree S (go (length w.exceptions) (record w { exceptions = w.exceptions ++ identifier ∷ [] }))
        (go' n (record u { exceptions = u.exceptions ++ identifier ∷ [] }))) (sym made) (h (length w.exceptions) _ _ same)

    -- runs that agree have one outcome
    pub outcome_of-agree : (name : V → World V → Option ℕ) (name' : W → World W → Option ℕ) {r : Answer V A} {r' : Answer W B}
        → ((p : V) (q : W) (w : World V) (u : World W) → P p q → SameWorlds R w u → name' q u ≡ name p w) → Agree S r r'
        → outcome_of name' r' ≡ outcome_of name r
    outcome_of-agree name name' h (both_give x s) = ends-same R _ _ _ s refl
    outcome_of-agree name name' h (both_raise r s) = ends-same R _ _ _ s (ap uncaught_end (h _ _ _ _ r s))
    outcome_of-agree name name' h (both_stop cut s) = ends-same R _ _ _ s refl
