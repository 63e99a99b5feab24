-- A curried function of n parameters is made with at most 2 n pieces.
use Rattle.std.proofs.Common.{◌≡◌, ◌≤◌, ℕ, zero, suc, ◌+◌, List, [], ◌∷◌, ◌++◌, length, Bool, true, false, ◌||◌, if◌then◌else◌, nat_eq, refl, sym, ap, subst, ◌∙◌, arith}
use Rattle.std.specs.Prelude.{⊤}
use Rattle.flow_sets.specs.of_ir_plain.Tree.{Fun, last, more}
use Rattle.flow_sets.specs.of_ir_mono.Types as table
use Rattle.flow_sets.specs.of_ir_mono.Mono.{mono}
use Rattle.flow_sets.specs.Member.{is_in}
use Rattle.flow_sets.proofs.Member.{nat_eq-to, nat_eq-same, or_left}
use Rattle.closure_convert.specs.Scope.{Member, names, Scope, way, is_way, index_of}
use Rattle.closure_convert.specs.Closed.{scope_of}
use Rattle.closure_convert.specs.Capture.{occurs_fun, kept, is_outer, cut, wanted}
use Rattle.closure_convert.specs.Counts.{AreDistinct, dropped, Aligned, parameters, IsFresh, inner_pieces, Captures}
use Rattle.closure_convert.proofs.Cut.{or_right, in-joined, kept-in, way-is}
use Rattle.closure_convert.proofs.Captured.{swapped}
use Rattle.closure_convert.proofs.Few.{made-few}

-- Places

abbrev pub Placed : (i : ℕ) → (cs ds : List ℕ) → Type 0
Placed i cs [] = ⊤
Placed i cs (y ∷ ds) = (index_of y cs ≡ i) × Placed (suc i) cs ds

pub not_left : (a b : Bool) → (a || b) ≡ false → a ≡ false
not_left true b e = absurd (cc)
not_left false b e = refl

pub not_right : (a b : Bool) → (a || b) ≡ false → b ≡ false
not_right true b e = absurd (cc)
not_right false b e = e

placed-after : (z : ℕ) (i : ℕ) (cs ds : List ℕ) → is_in z ds ≡ false → Placed i cs ds → Placed (suc i) (z ∷ cs) ds
placed-after z i cs [] n h = tt
placed-after z i cs (y ∷ ds) n h = (ap (λ b. if b then zero else suc (index_of y cs)) (swapped y z (not_left (nat_eq z y) _ n)) ∙ ap suc h.0, placed-after z (suc i) cs ds (not_right (nat_eq z y) _ n) h.1)

pub placed-all : (cs : List ℕ) → AreDistinct cs → Placed zero cs cs
placed-all [] d = tt
placed-all (z ∷ ds) d = (ap (λ b. if b then zero else suc (index_of z ds)) (nat_eq-same z), placed-after z zero ds ds d.0 (placed-all ds d.1))

pub aligned : (s : Scope) (i : ℕ) (ds : List ℕ) → Placed i s.captured ds → ((y : ℕ) → is_in y ds ≡ true → is_outer s y ≡ true) → Aligned s i ds
aligned s i [] p h = tt
aligned s i (y ∷ ds) p h = (h y (or_left (nat_eq y y) (is_in y ds) (nat_eq-same y)), (p.0, aligned s (suc i) ds p.1 (λ z k. h z (or_right (nat_eq z y) (is_in z ds) k))))

-- Members

pub not-both : (b : Bool) {P : Type 0} → b ≡ true → b ≡ false → P
not-both true e f = absurd (cc)
not-both false e f = absurd (cc)

pub none-dropped : (p : ℕ → Bool) (xs : List ℕ) → ((y : ℕ) → is_in y xs ≡ true → p y ≡ true) → dropped p xs ≡ zero
none-dropped p [] h = refl
none-dropped p (x ∷ xs) h = ap (λ b. if b then dropped p xs else suc (dropped p xs)) (h x (or_left (nat_eq x x) (is_in x xs) (nat_eq-same x))) ∙ none-dropped p xs (λ y k. h y (or_right (nat_eq y x) (is_in y xs) k))

pub kept-holds : (p : ℕ → Bool) (y : ℕ) (xs : List ℕ) → is_in y (kept p xs) ≡ true → p y ≡ true
kept-holds p y [] h = absurd (cc)
kept-holds p y (x ∷ xs) h = pick (p x) refl h (kept-holds p y xs)
  where
    two : (b : Bool) → (b ≡ true → p y ≡ true) → (b || is_in y (kept p xs)) ≡ true → (is_in y (kept p xs) ≡ true → p y ≡ true) → p y ≡ true
    two true e k f = e refl
    two false e k f = f k

    pick : (c : Bool) → p x ≡ c → is_in y (if c then x ∷ kept p xs else kept p xs) ≡ true → (is_in y (kept p xs) ≡ true → p y ≡ true) → p y ≡ true
    pick true e k f = two (nat_eq y x) (λ q. ap p (nat_eq-to y x q) ∙ e) k f
    pick false e k f = f k

pub kept-out : (p : ℕ → Bool) (y : ℕ) (xs : List ℕ) → is_in y xs ≡ false → is_in y (kept p xs) ≡ false
kept-out p y xs h = go (is_in y (kept p xs)) refl
  where
    go : (b : Bool) → is_in y (kept p xs) ≡ b → b ≡ false
    go true e = not-both (is_in y xs) (kept-in p y xs e) h
    go false e = refl

pub kept-distinct : (p : ℕ → Bool) (xs : List ℕ) → AreDistinct xs → AreDistinct (kept p xs)
kept-distinct p [] d = tt
kept-distinct p (x ∷ xs) d = pick (p x) (kept-distinct p xs d.1)
  where
    pick : (b : Bool) → AreDistinct (kept p xs) → AreDistinct (if b then x ∷ kept p xs else kept p xs)
    pick true k = (kept-out p x xs d.0, k)
    pick false k = k

pub kept-shorter : (p : ℕ → Bool) (xs : List ℕ) → length (kept p xs) ≤ length xs
kept-shorter p [] = omega arith
kept-shorter p (x ∷ xs) = pick (p x) (kept-shorter p xs)
  where
    pick : (b : Bool) → length (kept p xs) ≤ length xs → length (if b then x ∷ kept p xs else kept p xs) ≤ suc (length xs)
    pick true h = omega (arith, h)
    pick false h = omega (arith, h)

pub length-joined : (xs ys : List ℕ) → length (xs ++ ys) ≡ length xs + length ys
length-joined [] ys = omega arith
length-joined (x ∷ xs) ys = let h = length-joined xs ys in omega (arith, h)

pub joined-distinct : (xs ys : List ℕ) → AreDistinct xs → AreDistinct ys → ((y : ℕ) → is_in y xs ≡ true → is_in y ys ≡ false) → AreDistinct (xs ++ ys)
joined-distinct [] ys d e h = e
joined-distinct (x ∷ xs) ys d e h =
    (in-joined x xs ys ∙ (ap (λ b. b || is_in x ys) d.0 ∙ h x (or_left (nat_eq x x) (is_in x xs) (nat_eq-same x))), joined-distinct xs ys d.1 e (λ y k. h y (or_right (nat_eq y x) (is_in y xs) k)))

-- Curried functions

pub apart-from : (x y : ℕ) (xs : List ℕ) → is_in x xs ≡ false → is_in y xs ≡ true → nat_eq y x ≡ false
apart-from x y xs n h = go (nat_eq y x) refl
  where
    go : (b : Bool) → nat_eq y x ≡ b → b ≡ false
    go true e = not-both (is_in x xs) (subst (λ z. is_in z xs ≡ true) (nat_eq-to y x e) h) n
    go false e = refl

pub outer-in : (cs : List ℕ) (ms : List Member) (x y : ℕ) → nat_eq y x ≡ false → is_in y (names ms) ≡ false → is_in y cs ≡ true → is_outer (scope_of cs ms x) y ≡ true
outer-in cs ms x y e n h = ap (λ b. if b || false then false else (if is_way (way y ms) then false else is_in y cs)) e ∙ (ap (λ b. if b then false else is_in y cs) (way-is y ms ∙ n) ∙ h)

module _ (types : List table.Row) where
  -- the visible variables of the body
  visible-distinct : (cs : List ℕ) (ms : List Member) (xs : List ℕ) (x : ℕ) (f : Fun (mono types)) → Captures types cs ms xs f → is_in x xs ≡ false → AreDistinct (cs ++ (names ms ++ x ∷ []))
  visible-distinct cs ms xs x f g n =
      joined-distinct cs (names ms ++ x ∷ []) g.distinct (joined-distinct (names ms) (x ∷ []) g.names_distinct (refl, tt) (λ y h. ap (λ b. b || false) (apart-from x y xs n (g.names_around y h))))
      (λ y h. in-joined y (names ms) (x ∷ []) ∙ (ap (λ b. b || (nat_eq y x || false)) (g.apart y h) ∙ ap (λ b. b || false) (apart-from x y xs n (g.around y h))))

  visible-around : (cs : List ℕ) (ms : List Member) (xs : List ℕ) (x : ℕ) (f : Fun (mono types)) → Captures types cs ms xs f → (y : ℕ) → is_in y (cs ++ (names ms ++ x ∷ [])) ≡ true → is_in y (x ∷ xs) ≡ true
  visible-around cs ms xs x f g y h = pick (is_in y cs) (is_in y (names ms)) (nat_eq y x) (g.around y) (g.names_around y) (sym (in-joined y cs (names ms ++ x ∷ []) ∙ ap (λ b. is_in y cs || b) (in-joined y (names ms) (x ∷ []))) ∙ h)
    where
      pick : (c n e : Bool) → (c ≡ true → is_in y xs ≡ true) → (n ≡ true → is_in y xs ≡ true) → (c || (n || (e || false))) ≡ true → (e || is_in y xs) ≡ true
      pick c n true f g h = refl
      pick true n false f g h = f refl
      pick false true false f g h = g refl
      pick false false false f g h = absurd (cc)

  pub next-good : (cs : List ℕ) (ms : List Member) (xs : List ℕ) (x : ℕ) (f : Fun (mono types)) → Captures types cs ms xs f → is_in x xs ≡ false → Captures types (wanted types (scope_of cs ms x) f) [] (x ∷ xs) f
  next-good cs ms xs x f g n = record {
    distinct = kept-distinct (λ y. occurs_fun types y f) (cs ++ (names ms ++ x ∷ [])) (visible-distinct cs ms xs x f g n);
    names_distinct = tt;
    around = λ y h. visible-around cs ms xs x f g y (kept-in (λ y. occurs_fun types y f) y (cs ++ (names ms ++ x ∷ [])) h);
    names_around = λ y h. absurd (cc);
    apart = λ y h. refl;
    used = λ y h. kept-holds (λ y. occurs_fun types y f) y (cs ++ (names ms ++ x ∷ [])) h;
  }

  -- a closure of what is left is one run and the parameter, and the names of the group once
  pub step-few : (cs : List ℕ) (ms : List Member) (xs : List ℕ) (x : ℕ) (f : Fun (mono types)) → Captures types cs ms xs f → is_in x xs ≡ false → length (cut (scope_of cs ms x) (wanted types (scope_of cs ms x) f)) ≤ 2 + length (names ms)
  step-few cs ms xs x f g n =
      let few = made-few types (scope_of cs ms x) f (aligned (scope_of cs ms x) zero cs (placed-all cs g.distinct) (λ y h. outer-in cs ms x y (apart-from x y xs n (g.around y h)) (g.apart y h) h)) in
      let none = none-dropped (λ y. occurs_fun types y f) cs g.used in
      let short = kept-shorter (λ y. occurs_fun types y f) (names ms ++ x ∷ []) in
      let long = length-joined (names ms) (x ∷ []) in
      omega (arith, few, none, short, long)

  pub curried-few : (f : Fun (mono types)) (cs : List ℕ) (ms : List Member) (xs : List ℕ) → Captures types cs ms xs f → IsFresh types xs f → inner_pieces types cs ms f + 2 ≤ parameters types f + parameters types f + length (names ms)
  curried-few (last x t e) cs ms xs g n = omega arith
  curried-few (more x t f) cs ms xs g n =
      let h : Captures types cs ms xs f = record { distinct = g.distinct; names_distinct = g.names_distinct; around = g.around; names_around = g.names_around; apart = g.apart; used = g.used } in
      let now = step-few cs ms xs x f h n.0 in
      let later = curried-few f (wanted types (scope_of cs ms x) f) [] (x ∷ xs) (next-good cs ms xs x f h n.0) n.1 in
      omega (arith, now, later)
