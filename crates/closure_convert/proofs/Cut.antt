-- The pieces make what they are cut from.
use Rattle.std.proofs.Common.{◌≡◌, ℕ, zero, suc, List, [], ◌∷◌, ◌++◌, Bool, true, false, ◌||◌, if◌then◌else◌, nat_eq, refl, sym, ap, subst, ◌∙◌}
use Rattle.flow_sets.specs.Member.{is_in}
use Rattle.flow_sets.proofs.Member.{nat_eq-to, nat_eq-same, or_left}
use Rattle.closure_convert.specs.Scope.{Member, names, Scope, Way, no_way, leads, follows, way_in, way, is_way, reaches, index_of, Piece, alone, those, IsOuter, InRow, Makes, makes_none, makes_one, makes_run}
use Rattle.closure_convert.specs.Capture.{onto, visible, kept, is_outer, add_run, cut}

pub or_right : (a b : Bool) → b ≡ true → (a || b) ≡ true
or_right true b h = refl
or_right false b h = h

-- Members

pub in-joined : (y : ℕ) (xs ys : List ℕ) → is_in y (xs ++ ys) ≡ (is_in y xs || is_in y ys)
in-joined y [] ys = refl
in-joined y (x ∷ xs) ys = ap (λ b. nat_eq y x || b) (in-joined y xs ys) ∙ grouped (nat_eq y x)
  where
    grouped : (b : Bool) → (b || (is_in y xs || is_in y ys)) ≡ ((b || is_in y xs) || is_in y ys)
    grouped true = refl
    grouped false = refl

pub in-onto : (y : ℕ) (xs ys : List ℕ) → is_in y (onto xs ys) ≡ (is_in y xs || is_in y ys)
in-onto y [] ys = refl
in-onto y (x ∷ xs) ys = in-onto y xs (x ∷ ys) ∙ swapped (nat_eq y x) (is_in y xs)
  where
    swapped : (b c : Bool) → (c || (b || is_in y ys)) ≡ ((b || c) || is_in y ys)
    swapped true true = refl
    swapped true false = refl
    swapped false true = refl
    swapped false false = refl

way_in-is : (y : ℕ) (ms : List Member) → is_way (way_in y ms) ≡ is_in y (names ms)
way_in-is y [] = refl
way_in-is y (m ∷ ms) = pick (nat_eq y m.name) (way_in-is y ms)
  where
    pick : (b : Bool) → is_way (way_in y ms) ≡ is_in y (names ms) → is_way (if b then follows m.number else way_in y ms) ≡ (b || is_in y (names ms))
    pick true e = refl
    pick false e = e

pub way-is : (y : ℕ) (ms : List Member) → is_way (way y ms) ≡ is_in y (names ms)
way-is y [] = refl
way-is y (m ∷ ms) = pick (nat_eq y m.name)
  where
    pick : (b : Bool) → is_way (if b then leads else way_in y ms) ≡ (b || is_in y (names ms))
    pick true = refl
    pick false = way_in-is y ms

-- what is visible is what is found
pub visible-is : (s : Scope) (y : ℕ) → is_in y (visible s) ≡ reaches s y
visible-is s y = in-joined y s.captured (names s.group ++ onto s.locals [])
    ∙ (ap (λ b. is_in y s.captured || b) (in-joined y (names s.group) (onto s.locals []) ∙ (ap (λ b. is_in y (names s.group) || b) (in-onto y s.locals []) ∙ ap (λ b. b || (is_in y s.locals || false)) (sym (way-is y s.group))))
    ∙ swapped (is_in y s.captured) (is_way (way y s.group)) (is_in y s.locals))
  where
    swapped : (c q l : Bool) → (c || (q || (l || false))) ≡ (l || (q || c))
    swapped true true true = refl
    swapped true true false = refl
    swapped true false true = refl
    swapped true false false = refl
    swapped false true true = refl
    swapped false true false = refl
    swapped false false true = refl
    swapped false false false = refl

pub in-kept : (p : ℕ → Bool) (y : ℕ) (xs : List ℕ) → p y ≡ true → is_in y xs ≡ true → is_in y (kept p xs) ≡ true
in-kept p y [] h k = absurd (cc)
in-kept p y (x ∷ xs) h k = pick (nat_eq y x) refl (p x) refl k (in-kept p y xs h)
  where
    pick : (b : Bool) → nat_eq y x ≡ b → (c : Bool) → p x ≡ c → (b || is_in y xs) ≡ true → (is_in y xs ≡ true → is_in y (kept p xs) ≡ true) → is_in y (if c then x ∷ kept p xs else kept p xs) ≡ true
    pick true e true q k f = or_left (nat_eq y x) _ e
    pick true e false q k f = absurd (let r : p x ≡ true = subst (λ z. p z ≡ true) (nat_eq-to y x e) h in cc)
    pick false e true q k f = or_right (nat_eq y x) _ (f k)
    pick false e false q k f = f k

-- what is kept was there
pub kept-in : (p : ℕ → Bool) (y : ℕ) (xs : List ℕ) → is_in y (kept p xs) ≡ true → is_in y xs ≡ true
kept-in p y [] h = h
kept-in p y (x ∷ xs) h = pick (p x) h (kept-in p y xs)
  where
    or_two : (b : Bool) → (b || is_in y (kept p xs)) ≡ true → (is_in y (kept p xs) ≡ true → is_in y xs ≡ true) → (b || is_in y xs) ≡ true
    or_two true k f = refl
    or_two false k f = f k

    pick : (c : Bool) → is_in y (if c then x ∷ kept p xs else kept p xs) ≡ true → (is_in y (kept p xs) ≡ true → is_in y xs ≡ true) → (nat_eq y x || is_in y xs) ≡ true
    pick true k f = or_two (nat_eq y x) k f
    pick false k f = or_right (nat_eq y x) _ (f k)

-- Pieces

no-way : (q : Way) → is_way q ≡ false → q ≡ no_way
no-way no_way e = refl
no-way leads e = absurd (cc)
no-way (follows k) e = absurd (cc)

outer-is : (s : Scope) (y : ℕ) → is_outer s y ≡ true → IsOuter s y
outer-is s y h = pick (is_in y s.locals) refl (is_way (way y s.group)) refl h
  where
    pick : (b : Bool) → is_in y s.locals ≡ b → (c : Bool) → is_way (way y s.group) ≡ c → (if b then false else (if c then false else is_in y s.captured)) ≡ true → IsOuter s y
    pick true e c q h = absurd (cc)
    pick false e true q h = absurd (cc)
    pick false e false q h = record { not_local = e; not_group = no-way (way y s.group) q; captured = h }

-- a run that begins one earlier
longer : (s : Scope) (i y j n : ℕ) {ps : List Piece} {xs : List ℕ} → j ≡ suc i → IsOuter s y → index_of y s.captured ≡ i → Makes s (those j n ∷ ps) xs → Makes s (those i (suc n) ∷ ps) (y ∷ xs)
longer s i y j n e o is (makes_run from z zs row rest) = makes_run i y (z ∷ zs) (o, (is, subst (λ k. IsOuter s z × ((index_of z s.captured ≡ k) × InRow s (suc k) zs)) e row)) rest

one-run : (s : Scope) (i y : ℕ) {ps : List Piece} {xs : List ℕ} → IsOuter s y → index_of y s.captured ≡ i → Makes s ps xs → Makes s (those i (suc zero) ∷ ps) (y ∷ xs)
one-run s i y o is rest = makes_run i y [] (o, (is, tt)) rest

add_run-makes : (s : Scope) (y : ℕ) (ps : List Piece) {xs : List ℕ} → IsOuter s y → Makes s ps xs → Makes s (add_run (index_of y s.captured) ps) (y ∷ xs)
add_run-makes s y [] o rest = one-run s (index_of y s.captured) y o refl rest
add_run-makes s y (alone z ∷ ps) o rest = one-run s (index_of y s.captured) y o refl rest
add_run-makes s y (those j n ∷ ps) {xs} o rest = pick (nat_eq j (suc (index_of y s.captured))) (nat_eq-to j (suc (index_of y s.captured)))
  where
    pick : (b : Bool) → (b ≡ true → j ≡ suc (index_of y s.captured)) → Makes s (if b then those (index_of y s.captured) (suc n) ∷ ps else those (index_of y s.captured) (suc zero) ∷ those j n ∷ ps) (y ∷ xs)
    pick true e = longer s (index_of y s.captured) y j n (e refl) o refl rest
    pick false e = one-run s (index_of y s.captured) y o refl rest

pub cut-makes : (s : Scope) (ys : List ℕ) → ((y : ℕ) → is_in y ys ≡ true → reaches s y ≡ true) → Makes s (cut s ys) ys
cut-makes s [] h = makes_none
cut-makes s (y ∷ ys) h = pick (is_outer s y) refl (cut-makes s ys (λ z k. h z (or_right (nat_eq z y) (is_in z ys) k)))
  where
    pick : (b : Bool) → is_outer s y ≡ b → Makes s (cut s ys) ys → Makes s (if b then add_run (index_of y s.captured) (cut s ys) else alone y ∷ cut s ys) (y ∷ ys)
    pick true e rest = add_run-makes s y (cut s ys) (outer-is s y e) rest
    pick false e rest = makes_one y (h y (or_left (nat_eq y y) (is_in y ys) (nat_eq-same y))) rest
