-- Runs refine one another part by part.
use Rattle.std.proofs.Common.{◌≡◌, ℕ, zero, suc, Bool, true, false, if◌then◌else◌, [], ◌∷◌, ◌++◌, length, Option, Some, None, nat_lt, refl, ap, subst, sym, arith}
use Rattle.mlc_runs.specs.Outcome.{wrong}
use Rattle.mlc_runs.specs.Run.{World, Answer, then_do, or_handle, fail, take_turn, turn_from, new_reference, dereference, or_fail, assign, new_exception, outcome_of, uncaught_end}
use Rattle.mlc_runs.specs.Agreement as agree
use Rattle.mlc_runs.specs.Agreement.{AllRelated, none, more, BothOrNeither, neither, both, SameWorlds, Agree}
use Rattle.mlc_runs.specs.Refinement.{Refines, both_give, both_raise, both_stop, first_wrong}
use Rattle.mlc_base.specs.declared.place.Place.{Place}
use Rattle.mlc_runs.proofs.RunLaws.{length-same, push-same, slice_get-same, slice_set-same, ends-same}

module _ {V W : Type 0} (R : V → W → Type 0) where
  module _ {A B : Type 0} (S : A → B → Type 0) where
    pub then_do-refines : {C D : Type 0} (T : C → D → Type 0) {r : Answer V C} {r' : Answer W D} (go : C → World V → Answer V A) (go' : D → World W → Answer W B) → Refines R T r r' → ((c : C) (d : D) (w : World V) (u : World W) → T c d → SameWorlds R w u → Refines R S (go c w) (go' d u)) → Refines R S (then_do r go) (then_do r' go')
    then_do-refines T go go' (both_give t s) h = h _ _ _ _ t s
    then_do-refines T go go' (both_raise r s) h = both_raise r s
    then_do-refines T go go' (both_stop cut s) h = both_stop cut s
    then_do-refines T go go' (first_wrong r) h = first_wrong _

    pub or_handle-refines : {r : Answer V A} {r' : Answer W B} (go : V → World V → Answer V A) (go' : W → World W → Answer W B) → Refines R S r r' → ((p : V) (q : W) (w : World V) (u : World W) → R p q → SameWorlds R w u → Refines R S (go p w) (go' q u)) → Refines R S (or_handle r go) (or_handle r' go')
    or_handle-refines go go' (both_give t s) h = both_give t s
    or_handle-refines go go' (both_raise r s) h = h _ _ _ _ r s
    or_handle-refines go go' (both_stop cut s) h = both_stop cut s
    or_handle-refines go go' (first_wrong r) h = first_wrong _

    pub weaker : {T : A → B → Type 0} {r : Answer V A} {r' : Answer W B} → Refines R T r r' → ((a : A) (b : B) → T a b → S a b) → Refines R S r r'
    weaker (both_give t s) h = both_give (h _ _ t) s
    weaker (both_raise r s) h = both_raise r s
    weaker (both_stop cut s) h = both_stop cut s
    weaker (first_wrong r) h = first_wrong r

    turn_from-refines : (n m : ℕ) (place : Place) (w : World V) (u : World W) (go : World V → Answer V A) (go' : World W → Answer W B) → m ≡ n → SameWorlds R w u → ((w' : World V) (u' : World W) → SameWorlds R w' u' → Refines R S (go w') (go' u')) → Refines R S (turn_from n place w go) (turn_from m place u go')
    turn_from-refines zero zero place w u go go' e s h = both_stop _ s
    turn_from-refines zero (suc m) place w u go go' e s h = absurd (omega arith)
    turn_from-refines (suc n) zero place w u go go' e s h = absurd (omega arith)
    turn_from-refines (suc n) (suc m) place w u go go' e s h = h _ _ (record { output = s.output; left = omega arith; taken = ap (λ t. t ++ place ∷ []) s.taken; store = s.store; exceptions = s.exceptions })

    pub take_turn-refines : (place : Place) (w : World V) (u : World W) (go : World V → Answer V A) (go' : World W → Answer W B) → SameWorlds R w u → ((w' : World V) (u' : World W) → SameWorlds R w' u' → Refines R S (go w') (go' u')) → Refines R S (take_turn place w go) (take_turn place u go')
    take_turn-refines place w u go go' s h = turn_from-refines w.left u.left place w u go go' s.left s h

    pub new_reference-refines : (v : V) (v' : W) (w : World V) (u : World W) (go : ℕ → World V → Answer V A) (go' : ℕ → World W → Answer W B) → R v v' → SameWorlds R w u → ((at : ℕ) (w' : World V) (u' : World W) → SameWorlds R w' u' → Refines R S (go at w') (go' at u')) → Refines R S (new_reference v w go) (new_reference v' u go')
    new_reference-refines v v' w u go go' r s h = rw (length-same R s.store) (h _ _ _ (record { output = s.output; left = s.left; taken = s.taken; store = push-same R s.store r; exceptions = s.exceptions }))

    or_fail-refines : {o : Option V} {o' : Option W} (w : World V) (u : World W) (go : V → Answer V A) (go' : W → Answer W B) → BothOrNeither R o o' → SameWorlds R w u → ((v : V) (v' : W) → R v v' → Refines R S (go v) (go' v')) → Refines R S (or_fail o w go) (or_fail o' u go')
    or_fail-refines w u go go' neither s h = both_stop _ s
    or_fail-refines w u go go' (both r) s h = h _ _ r

    pub dereference-refines : (at : ℕ) (w : World V) (u : World W) (go : V → Answer V A) (go' : W → Answer W B) → SameWorlds R w u → ((v : V) (v' : W) → R v v' → Refines R S (go v) (go' v')) → Refines R S (dereference at w go) (dereference at u go')
    dereference-refines at w u go go' s h = or_fail-refines w u go go' (slice_get-same R at s.store) s h

    if-refines : (b : Bool) (r : Answer V A) (r' : Answer W B) (w : World V) (u : World W) → Refines R S r r' → SameWorlds R w u → Refines R S (if b then r else fail w) (if b then r' else fail u)
    if-refines true r r' w u h s = h
    if-refines false r r' w u h s = both_stop _ s

    pub assign-refines : (at : ℕ) (v : V) (v' : W) (w : World V) (u : World W) (go : World V → Answer V A) (go' : World W → Answer W B) → R v v' → SameWorlds R w u → ((w' : World V) (u' : World W) → SameWorlds R w' u' → Refines R S (go w') (go' u')) → Refines R S (assign at v w go) (assign at v' u go')
    assign-refines at v v' w u go go' r s h =
        rw (length-same R s.store) (if-refines (nat_lt at (length w.store)) _ _ w u (h _ _ (record { output = s.output; left = s.left; taken = s.taken; store = slice_set-same R at s.store r; exceptions = s.exceptions })) s)

    pub new_exception-refines : (identifier : ℕ) (w : World V) (u : World W) (go : ℕ → World V → Answer V A) (go' : ℕ → World W → Answer W B) → SameWorlds R w u → ((name : ℕ) (w' : World V) (u' : World W) → SameWorlds R w' u' → Refines R S (go name w') (go' name u')) → Refines R S (new_exception identifier w go) (new_exception identifier u go')
    new_exception-refines identifier w u go go' s h =
        let same : SameWorlds R (record w { exceptions = w.exceptions ++ identifier ∷ [] }) (record u { exceptions = u.exceptions ++ identifier ∷ [] }) = record { output = s.output; left = s.left; taken = s.taken; store = s.store; exceptions = ap (λ names. names ++ identifier ∷ []) s.exceptions } in
        let made : length u.exceptions ≡ length w.exceptions = ap length s.exceptions in
        subst (λ n. Refines R S (go (length w.exceptions) (record w { exceptions = w.exceptions ++ identifier ∷ [] })) (go' n (record u { exceptions = u.exceptions ++ identifier ∷ [] }))) (sym made) (h (length w.exceptions) _ _ same)

    raised-end : (o o' : Option ℕ) → ((i : ℕ) → o ≡ Some i → o' ≡ Some i) → (uncaught_end o ≡ wrong → ⊥) → uncaught_end o' ≡ uncaught_end o
    raised-end None o' h never = absurd (never refl)
    raised-end (Some i) o' h never = ap uncaught_end (h i refl)

    -- one outcome, where the first run doesn't go wrong
    pub outcome_of-refines : (name : V → World V → Option ℕ) (name' : W → World W → Option ℕ) {r : Answer V A} {r' : Answer W B} → ((p : V) (q : W) (w : World V) (u : World W) (i : ℕ) → R p q → SameWorlds R w u → name p w ≡ Some i → name' q u ≡ Some i) → Refines R S r r' → ((outcome_of name r).end ≡ wrong → ⊥) → outcome_of name' r' ≡ outcome_of name r
    outcome_of-refines name name' h (both_give x s) never = ends-same R _ _ _ s refl
    outcome_of-refines name name' h (both_raise r s) never = ends-same R _ _ _ s (raised-end _ _ (λ i e. h _ _ _ _ i r s e) never)
    outcome_of-refines name name' h (both_stop cut s) never = ends-same R _ _ _ s refl
    outcome_of-refines name name' h (first_wrong r) never = absurd (never refl)

    pub from-agree : {r : Answer V A} {r' : Answer W B} → Agree R S r r' → Refines R S r r'
    from-agree (agree.both_give t s) = both_give t s
    from-agree (agree.both_raise r s) = both_raise r s
    from-agree (agree.both_stop cut s) = both_stop cut s

    pub fail-refines : (w : World V) (r : Answer W B) → Refines R S (fail w) r
    fail-refines w r = first_wrong r
