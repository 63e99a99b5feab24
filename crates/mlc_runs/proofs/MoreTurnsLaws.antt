-- With more turns a run goes on, part by part.
use Rattle.std.proofs.Common.{◌≡◌, ℕ, zero, suc, ◌≤◌, Bool, true, false, if◌then◌else◌, List, [], ◌∷◌, ◌++◌, length, Option, Some, None, slice_get, nat_lt, refl, sym, ap, ◌∙◌, subst, append_assoc, append-nil, arith}
use Rattle.std.specs.Prelude.{slice_set}
use Rattle.mlc_base.specs.declared.place.Place.{Place}
use Rattle.mlc_runs.specs.Run.{World, out_of_turns, Answer, gives, raises, stops, then_do, or_handle, fail, or_fail, turn_from, take_turn, writes, new_reference, dereference, assign, new_exception, outcome_of, uncaught_end}
use Rattle.mlc_runs.specs.MoreTurns.{IsPrefix, GrowsTo, output_in, HasMoreTurns, Continues, gives_same, raises_same, wrong_same, was_cut, OnlyWrites, GoesOn}

pub prefix-refl : (o : List ℕ) → IsPrefix o o
prefix-refl o = ([], sym (append-nil o))

pub prefix-trans : (a b c : List ℕ) → IsPrefix a b → IsPrefix b c → IsPrefix a c
prefix-trans a b c h k = (h.0 ++ k.0, k.1 ∙ ap (λ l. l ++ k.0) h.1 ∙ append_assoc a h.0 k.0)

pub prefix-same : (a b : List ℕ) → b ≡ a → IsPrefix a b
prefix-same a b e = ([], e ∙ sym (append-nil a))

module _ {V : Type 0} where
  same-store : {w w' : World V} → HasMoreTurns w w' → w'.store ≡ w.store
  same-store x = ap (λ u. u.store) x.same

  same-output : {w w' : World V} → HasMoreTurns w w' → w'.output ≡ w.output
  same-output x = ap (λ u. u.output) x.same

  -- a world that is changed in the same way stays the same but for the turns
  pub turns-apart : (change : World V → World V) → ((w : World V) (n : ℕ) → change (record w { left = n }) ≡ record (change w) { left = n }) → ((w : World V) → (change w).left ≡ w.left) → (w w' : World V) → HasMoreTurns w w' → HasMoreTurns (change w) (change w')
  turns-apart change apart left w w' x = record {
    same = ap change x.same ∙ apart w w'.left ∙ ap (λ n. record (change w) { left = n }) (sym (left w'));
    more = let a : (change w).left ≡ w.left = left w in let b : (change w').left ≡ w'.left = left w' in let m : w.left ≤ w'.left = x.more in omega arith;
  }

  module _ {A : Type 0} where
    pub gives-on : (a : A) → GoesOn {V = V} (λ w. gives a w) (λ w. gives a w)
    gives-on a = record { writes = λ w. prefix-refl w.output; continues = λ w w' x. gives_same a x }

    pub raises-on : (packet : V) → GoesOn {A = A} (λ w. raises packet w) (λ w. raises packet w)
    raises-on packet = record { writes = λ w. prefix-refl w.output; continues = λ w w' x. raises_same packet x }

    pub fail-on : GoesOn {V = V} {A = A} (λ w. fail w) (λ w. fail w)
    fail-on = record { writes = λ w. prefix-refl w.output; continues = λ w w' x. wrong_same x }

    -- a run without fuel is cut short
    pub cut-on : (run : World V → Answer V A) → OnlyWrites run → GoesOn (λ w. stops out_of_turns w) run
    cut-on run h = record { writes = h; continues = λ w w' x. was_cut w (run w') (subst (λ o. IsPrefix o (output_in (run w'))) (ap (λ u. u.output) x.same) (h w')) }

    pub if-on : (b : Bool) {few many few' many' : World V → Answer V A} → GoesOn few many → GoesOn few' many' → GoesOn (λ w. if b then few w else few' w) (λ w. if b then many w else many' w)
    if-on true h k = h
    if-on false h k = k

    pub or_fail-on : {B : Type 0} (o : Option B) {go go' : B → World V → Answer V A} → ((b : B) → GoesOn (go b) (go' b)) → GoesOn (λ w. or_fail o w (λ b. go b w)) (λ w. or_fail o w (λ b. go' b w))
    or_fail-on None h = fail-on
    or_fail-on (Some b) h = h b

    then-writes : {B : Type 0} (w : World V) (r : Answer V B) (go : B → World V → Answer V A) → IsPrefix w.output (output_in r) → ((b : B) → OnlyWrites (go b)) → IsPrefix w.output (output_in (then_do r go))
    then-writes w (gives b u) go h k = prefix-trans w.output u.output (output_in (go b u)) h (k b u)
    then-writes w (raises packet u) go h k = h
    then-writes w (stops cut u) go h k = h

    then-continues : {B : Type 0} (go go' : B → World V → Answer V A) {r r' : Answer V B} → Continues r r' → ((b : B) → GoesOn (go b) (go' b)) → Continues (then_do r go) (then_do r' go')
    then-continues go go' (gives_same b {w = w} {w' = w'} x) k = (k b).continues w w' x
    then-continues go go' (raises_same packet x) k = raises_same packet x
    then-continues go go' (wrong_same x) k = wrong_same x
    then-continues go go' (was_cut w r h) k = was_cut w (then_do r go') (then-writes w r go' h (λ b. (k b).writes))

    pub then_do-on : {B : Type 0} {few many : World V → Answer V B} {go go' : B → World V → Answer V A} → GoesOn few many → ((b : B) → GoesOn (go b) (go' b)) → GoesOn (λ w. then_do (few w) go) (λ w. then_do (many w) go')
    then_do-on {few = few} {many = many} {go = go} {go' = go'} h k = record {
      writes = λ w. then-writes w (many w) go' (h.writes w) (λ b. (k b).writes);
      continues = λ w w' x. then-continues go go' (h.continues w w' x) k;
    }

    handle-writes : (w : World V) (r : Answer V A) (go : V → World V → Answer V A) → IsPrefix w.output (output_in r) → ((packet : V) → OnlyWrites (go packet)) → IsPrefix w.output (output_in (or_handle r go))
    handle-writes w (gives a u) go h k = h
    handle-writes w (raises packet u) go h k = prefix-trans w.output u.output (output_in (go packet u)) h (k packet u)
    handle-writes w (stops cut u) go h k = h

    handle-continues : (go go' : V → World V → Answer V A) {r r' : Answer V A} → Continues r r' → ((packet : V) → GoesOn (go packet) (go' packet)) → Continues (or_handle r go) (or_handle r' go')
    handle-continues go go' (gives_same a x) k = gives_same a x
    handle-continues go go' (raises_same packet {w = w} {w' = w'} x) k = (k packet).continues w w' x
    handle-continues go go' (wrong_same x) k = wrong_same x
    handle-continues go go' (was_cut w r h) k = was_cut w (or_handle r go') (handle-writes w r go' h (λ packet. (k packet).writes))

    pub or_handle-on : {few many : World V → Answer V A} {go go' : V → World V → Answer V A} → GoesOn few many → ((packet : V) → GoesOn (go packet) (go' packet)) → GoesOn (λ w. or_handle (few w) go) (λ w. or_handle (many w) go')
    or_handle-on {few = few} {many = many} {go = go} {go' = go'} h k = record {
      writes = λ w. handle-writes w (many w) go' (h.writes w) (λ packet. (k packet).writes);
      continues = λ w w' x. handle-continues go go' (h.continues w w' x) k;
    }

    turn-writes : (n : ℕ) (place : Place) (w : World V) (go : World V → Answer V A) → OnlyWrites go → IsPrefix w.output (output_in (turn_from n place w go))
    turn-writes zero place w go h = prefix-refl w.output
    turn-writes (suc n) place w go h = h (record w { left = n; taken = w.taken ++ place ∷ [] })

    turn-continues : (n n' : ℕ) (place : Place) (w w' : World V) (few many : World V → Answer V A) → w' ≡ record w { left = w'.left } → n ≤ n' → GoesOn few many → Continues (turn_from n place w few) (turn_from n' place w' many)
    turn-continues zero n' place w w' few many same le h =
        was_cut w (turn_from n' place w' many) (subst (λ o. IsPrefix o (output_in (turn_from n' place w' many))) (ap (λ u. u.output) same) (turn-writes n' place w' many h.writes))
    turn-continues (suc n) zero place w w' few many same le h = absurd (omega arith)
    turn-continues (suc n) (suc n') place w w' few many same le h =
        h.continues (record w { left = n; taken = w.taken ++ place ∷ [] }) (record w' { left = n'; taken = w'.taken ++ place ∷ [] })
        (record { same = let put : World V → World V = λ u. record u { left = n'; taken = u.taken ++ place ∷ [] } in ap put same; more = omega arith })

    pub take_turn-on : (place : Place) {few many : World V → Answer V A} → GoesOn few many → GoesOn (λ w. take_turn place w few) (λ w. take_turn place w many)
    take_turn-on place {few = few} {many = many} h = record {
      writes = λ w. turn-writes w.left place w many h.writes;
      continues = λ w w' x. turn-continues w.left w'.left place w w' few many x.same x.more h;
    }

    pub writes-on : (bytes : List ℕ) {few many : World V → Answer V A} → GoesOn few many → GoesOn (λ w. few (writes bytes w)) (λ w. many (writes bytes w))
    writes-on bytes {few = few} {many = many} h = record {
      writes = λ w. prefix-trans w.output (w.output ++ bytes) (output_in (many (writes bytes w))) (bytes, refl) (h.writes (writes bytes w));
      continues = λ w w' x. h.continues (writes bytes w) (writes bytes w') (turns-apart (writes bytes) (λ w n. refl) (λ w. refl) w w' x);
    }

    pub new_reference-on : (v : V) {go go' : ℕ → World V → Answer V A} → ((at : ℕ) → GoesOn (go at) (go' at)) → GoesOn (λ w. new_reference v w go) (λ w. new_reference v w go')
    new_reference-on v {go = go} {go' = go'} h =
        let made : World V → World V = λ w. record w { store = w.store ++ v ∷ [] } in
        record {
          writes = λ w. (h (length w.store)).writes (made w);
          continues = λ w w' x. subst (λ at. Continues (go (length w.store) (made w)) (go' at (made w'))) (sym (ap length (same-store x))) ((h (length w.store)).continues (made w) (made w') (turns-apart made (λ w n. refl) (λ w. refl) w w' x));
        }

    held-continues : (at : ℕ) (go go' : V → World V → Answer V A) → ((v : V) → GoesOn (go v) (go' v)) → (w w' : World V) → HasMoreTurns w w' → Continues (dereference at w (λ v. go v w)) (dereference at w' (λ v. go' v w'))
    held-continues at go go' h w w' x =
        subst (λ o. Continues (dereference at w (λ v. go v w)) (or_fail o w' (λ v. go' v w'))) (sym (ap (λ s. slice_get s at) (same-store x)))
        ((or_fail-on (slice_get w.store at) h).continues w w' x)

    pub dereference-on : (at : ℕ) {go go' : V → World V → Answer V A} → ((v : V) → GoesOn (go v) (go' v)) → GoesOn (λ w. dereference at w (λ v. go v w)) (λ w. dereference at w (λ v. go' v w))
    dereference-on at {go = go} {go' = go'} h = record {
      writes = λ w. (or_fail-on (slice_get w.store at) h).writes w;
      continues = held-continues at go go' h;
    }

    pub assign-on : (at : ℕ) (v : V) {few many : World V → Answer V A} → GoesOn few many → GoesOn (λ w. assign at v w few) (λ w. assign at v w many)
    assign-on at v {few = few} {many = many} h =
        let put : World V → World V = λ w. record w { store = slice_set w.store at v } in
        let after : GoesOn (λ w. few (put w)) (λ w. many (put w)) = record {
          writes = λ w. h.writes (put w);
          continues = λ w w' x. h.continues (put w) (put w') (turns-apart put (λ w n. refl) (λ w. refl) w w' x);
        } in
        record {
          writes = λ w. (if-on (nat_lt at (length w.store)) after fail-on).writes w;
          continues = λ w w' x.
              subst (λ n. Continues (assign at v w few) (if nat_lt at n then many (put w') else fail w')) (sym (ap length (same-store x)))
              ((if-on (nat_lt at (length w.store)) after fail-on).continues w w' x);
        }

    pub new_exception-on : (identifier : ℕ) {go go' : ℕ → World V → Answer V A} → ((name : ℕ) → GoesOn (go name) (go' name)) → GoesOn (λ w. new_exception identifier w go) (λ w. new_exception identifier w go')
    new_exception-on identifier {go = go} {go' = go'} h =
        let made : World V → World V = λ w. record w { exceptions = w.exceptions ++ identifier ∷ [] } in
        record {
          writes = λ w. (h (length w.exceptions)).writes (made w);
          continues = λ w w' x. subst (λ name. Continues (go (length w.exceptions) (made w)) (go' name (made w'))) (sym (ap (λ u. length u.exceptions) x.same)) ((h (length w.exceptions)).continues (made w) (made w') (turns-apart made (λ w n. refl) (λ w. refl) w w' x));
        }

    -- Outcomes.

    out-output : (name : V → World V → Option ℕ) (r : Answer V A) → (outcome_of name r).output ≡ output_in r
    out-output name (gives a w) = refl
    out-output name (raises packet w) = refl
    out-output name (stops cut w) = refl

    pub outcome_of-grows : (name : V → World V → Option ℕ) → ((packet : V) (w w' : World V) → HasMoreTurns w w' → name packet w' ≡ name packet w) → {r r' : Answer V A} → Continues r r' → GrowsTo (outcome_of name r) (outcome_of name r')
    outcome_of-grows name h (gives_same a {w = w} {w' = w'} x) = record { output = prefix-same w.output w'.output (same-output x); end = λ k. (refl, same-output x) }
    outcome_of-grows name h (raises_same packet {w = w} {w' = w'} x) = record { output = prefix-same w.output w'.output (same-output x); end = λ k. (ap uncaught_end (h packet w w' x), same-output x) }
    outcome_of-grows name h (wrong_same {w = w} {w' = w'} x) = record { output = prefix-same w.output w'.output (same-output x); end = λ k. (refl, same-output x) }
    outcome_of-grows name h (was_cut w r k) = record { output = subst (IsPrefix w.output) (sym (out-output name r)) k; end = λ e. absurd (e refl) }
