-- The variables at rising places are those that are used.
use Rattle.std.proofs.Common.{◌≡◌, ℕ, zero, suc, ◌+◌, ◌-◌, ◌<◌, ◌≤◌, Bool, true, false, ◌||◌, List, [], ◌∷◌, ◌++◌, take, drop, length, Option, Some, None, nat_eq, nat_lt, if◌then◌else◌, get_or, slice_get, Vec, Global, Result, Ok, Err, IfOk, refl, sym, ap, ap₂, subst, ◌∙◌, arith}
use Rattle.std.specs.Prelude.{position, ⊤}
use Rattle.std.specs.List.{position_or_len}
use Rattle.std.specs.List.Sorted.{IsPermutation, IsNonDecreasingBy, IsSorted}
use Rattle.std.specs.Ordering.{nat_cmp}
use Rattle.std.proofs.lemmas.Bool.{ltb-true, ltb-false, eqb-true}
use Rattle.std.proofs.lemmas.List.{take_more, drop_more}
use Rattle.std.proofs.lemmas.List.Sorted.{list_any-IsPermutation, IsNonDecreasingBy-from_sort}
use Rattle.closure_convert.specs.of_flow_sets.Member.{is_in}
use Rattle.closure_convert.specs.Scope.{index_of}
use Rattle.closure_convert.specs.Capture.{kept}
use Rattle.closure_convert.specs.Counts.{AreDistinct}
use Rattle.closure_convert.proofs.Curried.{kept-distinct}
use Rattle.capture_scope.specs.Picked.{is_used, AtPlaces, standing, picked}
use Rattle.capture_scope.proofs.Lists.{nat-same, or-false, in-append, in-any, place-is, index-in, index-out, index-get, get-in, get-index}

placed-at : (y : ℕ) (xs : List ℕ) (i : ℕ) → position (nat_eq y) xs ≡ Some i → (index_of y xs ≡ i) × (is_in y xs ≡ true)
placed-at y xs i e = by (nat_lt (position_or_len (nat_eq y) xs) (length xs)) refl e
  where
    there : (b : Bool) → is_in y xs ≡ b → index_of y xs < length xs → b ≡ true
    there true q h = refl
    there false q h = let o = index-out y xs q in absurd (omega (arith, o, h))

    by : (b : Bool) → nat_lt (position_or_len (nat_eq y) xs) (length xs) ≡ b → (if b then Some (position_or_len (nat_eq y) xs) else None) ≡ Some i → (index_of y xs ≡ i) × (is_in y xs ≡ true)
    by true q e =
        let p : position_or_len (nat_eq y) xs ≡ i = (cc) in
        let l : position_or_len (nat_eq y) xs < length xs = ltb-true (position_or_len (nat_eq y) xs) (length xs) q in
        let z = place-is y xs in
        (sym z ∙ p, there (is_in y xs) refl (omega (arith, l, z)))
    by false q e = absurd (cc)

not-placed : (y : ℕ) (xs : List ℕ) → position (nat_eq y) xs ≡ None → is_in y xs ≡ false
not-placed y xs e = by (nat_lt (position_or_len (nat_eq y) xs) (length xs)) refl e (is_in y xs) refl
  where
    by : (b : Bool) → nat_lt (position_or_len (nat_eq y) xs) (length xs) ≡ b → (if b then Some (position_or_len (nat_eq y) xs) else None) ≡ None → (a : Bool) → is_in y xs ≡ a → a ≡ false
    by true q e a h = absurd (cc)
    by false q e false h = refl
    by false q e true h =
        let l : length xs ≤ position_or_len (nat_eq y) xs = ltb-false (position_or_len (nat_eq y) xs) (length xs) q in
        let p = place-is y xs in let i = index-in y xs h in absurd (omega (arith, l, p, i))

-- Places of what is used

used-more : (us : List ℕ) (y : ℕ) (o : Option ℕ) (b : Bool) → ((x : ℕ) → o ≡ Some x → nat_eq x y ≡ b) → (o ≡ None → b ≡ false) → is_used (us ++ y ∷ []) o ≡ (is_used us o || b)
used-more us y None b f g = sym (g refl)
used-more us y (Some x) b f g = in-append x us (y ∷ []) ∙ ap (λ c. is_in x us || c) (or-false (nat_eq x y) ∙ f x refl)

pub places-start : (xs us ps : List ℕ) → ps ≡ [] → AtPlaces xs (take 0 us) ps
places-start xs us ps e p = ap (is_in p) e ∙ none (slice_get xs p)
  where
    none : (o : Option ℕ) → false ≡ is_used [] o
    none None = refl
    none (Some x) = refl

module _ (xs us : List ℕ) (i y d : ℕ) (h : i < length us) (is : y ≡ get_or us i d) where
  more : take (i + 1) us ≡ take i us ++ y ∷ []
  more = take_more us i d h ∙ ap (λ z. take i us ++ z ∷ []) (sym is)

  pub places-none : (ps : List ℕ) → is_in y xs ≡ false → AtPlaces xs (take i us) ps → AtPlaces xs (take (i + 1) us) ps
  places-none ps o a p =
      a p ∙ sym (ap (λ l. is_used l (slice_get xs p)) more ∙ used-more (take i us) y (slice_get xs p) false other (λ _. refl) ∙ or-false (is_used (take i us) (slice_get xs p)))
    where
      other : (x : ℕ) → slice_get xs p ≡ Some x → nat_eq x y ≡ false
      other x e = by (nat_eq x y) refl
        where
          by : (b : Bool) → nat_eq x y ≡ b → b ≡ false
          by true q = let z : is_in y xs ≡ true = ap (λ v. is_in v xs) (sym (eqb-true x y q)) ∙ get-in xs p x e in absurd (cc)
          by false q = refl

  pub places-some : (ps new : List ℕ) (place : ℕ) → AreDistinct xs → is_in y xs ≡ true → index_of y xs ≡ place → new ≡ ps ++ place ∷ [] → AtPlaces xs (take i us) ps → AtPlaces xs (take (i + 1) us) new
  places-some ps new place dis t q e a p =
      ap (is_in p) e ∙ in-append p ps (place ∷ []) ∙ ap₂ (λ u v. u || v) (a p) (or-false (nat_eq p place))
      ∙ sym (ap (λ l. is_used l (slice_get xs p)) more ∙ used-more (take i us) y (slice_get xs p) (nat_eq p place) same past)
    where
      same : (x : ℕ) → slice_get xs p ≡ Some x → nat_eq x y ≡ nat_eq p place
      same x g = by (nat_eq x y) (nat_eq p place) refl refl
        where
          by : (b c : Bool) → nat_eq x y ≡ b → nat_eq p place ≡ c → b ≡ c
          by true true qb qc = refl
          by false false qb qc = refl
          by true false qb qc =
              let z : p ≡ place = sym (get-index xs p x dis g) ∙ ap (λ v. index_of v xs) (eqb-true x y qb) ∙ q in
              let w : nat_eq p place ≡ true = ap (nat_eq p) (sym z) ∙ nat-same p in absurd (cc)
          by false true qb qc =
              let z : Some x ≡ Some y = sym g ∙ ap (slice_get xs) (eqb-true p place qc ∙ sym q) ∙ index-get y xs t in
              let v : x ≡ y = (cc) in
              let w : nat_eq x y ≡ true = ap (nat_eq x) (sym v) ∙ nat-same x in absurd (cc)

      past : slice_get xs p ≡ None → nat_eq p place ≡ false
      past g = by (nat_eq p place) refl
        where
          by : (b : Bool) → nat_eq p place ≡ b → b ≡ false
          by true qb = let z : None ≡ Some y = sym g ∙ ap (slice_get xs) (eqb-true p place qb ∙ sym q) ∙ index-get y xs t in absurd (cc)
          by false qb = refl

pub places-all : (xs us ps : List ℕ) (i : ℕ) → length us ≤ i → AtPlaces xs (take i us) ps → AtPlaces xs us ps
places-all xs us ps i h a = subst (λ l. AtPlaces xs l ps) (all us i h) a
  where
    all : (us : List ℕ) (i : ℕ) → length us ≤ i → take i us ≡ us
    all [] zero h = refl
    all [] (suc i) h = refl
    all (u ∷ us) zero h = absurd (omega (arith, h))
    all (u ∷ us) (suc i) h = ap (λ l. u ∷ l) (all us i (omega (arith, h)))

-- Rising places

abbrev Rising : ℕ → List ℕ → Type 0
Rising low [] = ⊤
Rising low (p ∷ ps) = (low ≤ p) × Rising p ps

rises : (q : ℕ) (ps : List ℕ) → IsNonDecreasingBy (λ (x : ℕ). x) (q ∷ ps) → Rising q ps
rises q [] h = tt
rises q (p ∷ ps) h = (h 0 1 0 (omega arith) (omega arith), rises p ps (λ i j d l m. h (suc i) (suc j) d (omega (arith, l)) (omega (arith, m))))

least : (low r : ℕ) (ps : List ℕ) → Rising low ps → is_in r ps ≡ true → low ≤ r
least low r [] h i = absurd (cc)
least low r (p ∷ ps) h i = by (nat_eq r p) refl (λ k. least p r ps h.1 k) i
  where
    by : (b : Bool) → nat_eq r p ≡ b → (is_in r ps ≡ true → p ≤ r) → (b || is_in r ps) ≡ true → low ≤ r
    by true q f i = let e = eqb-true r p q in let l = h.0 in omega (arith, e, l)
    by false q f i = let l = h.0 in let m = f i in omega (arith, l, m)

module _ (xs us : List ℕ) where
  abbrev wants : ℕ → Bool
  wants y = is_in y us

  -- what is left from here on, where nothing is used before there
  skip : (n k : ℕ) → ((r : ℕ) → n ≤ r → r < n + k → is_used us (slice_get xs r) ≡ false) → kept wants (drop n xs) ≡ kept wants (drop (n + k) xs)
  skip n k h = go xs n k h
    where
      go : (ys : List ℕ) (n k : ℕ) → ((r : ℕ) → n ≤ r → r < n + k → is_used us (slice_get ys r) ≡ false) → kept wants (drop n ys) ≡ kept wants (drop (n + k) ys)
      go [] zero zero h = refl
      go [] zero (suc k) h = ap (λ m. kept wants (drop m [])) (let e : suc k ≡ 0 + suc k = omega arith in e)
      go [] (suc n) k h = ap (λ m. kept wants (drop m [])) (let e : suc (n + k) ≡ suc n + k = omega arith in e)
      go (y ∷ ys) zero zero h = refl
      go (y ∷ ys) zero (suc k) h =
          ap (λ b. if b then y ∷ kept wants ys else kept wants ys) (h 0 (omega arith) (omega arith)) ∙ go ys zero k (λ r l m. h (suc r) (omega arith) (omega (arith, m)))
          ∙ ap (λ m. kept wants (drop m (y ∷ ys))) (let e : suc (0 + k) ≡ 0 + suc k = omega arith in e)
      go (y ∷ ys) (suc n) k h =
          go ys n k (λ r l m. h (suc r) (omega (arith, l)) (omega (arith, m))) ∙ ap (λ m. kept wants (drop m (y ∷ ys))) (let e : suc (n + k) ≡ suc n + k = omega arith in e)

  none-left : (n : ℕ) → ((r : ℕ) → n ≤ r → is_used us (slice_get xs r) ≡ false) → kept wants (drop n xs) ≡ []
  none-left n h = go xs n h
    where
      go : (ys : List ℕ) (n : ℕ) → ((r : ℕ) → n ≤ r → is_used us (slice_get ys r) ≡ false) → kept wants (drop n ys) ≡ []
      go [] zero h = refl
      go [] (suc n) h = refl
      go (y ∷ ys) zero h = ap (λ b. if b then y ∷ kept wants ys else kept wants ys) (h 0 (omega arith)) ∙ go ys zero (λ r l. h (suc r) (omega arith))
      go (y ∷ ys) (suc n) h = go ys n (λ r l. h (suc r) (omega (arith, l)))

  here : (q x : ℕ) → slice_get xs q ≡ Some x → is_in x us ≡ true → kept wants (drop q xs) ≡ x ∷ kept wants (drop (suc q) xs)
  here q x g u = go xs q g
    where
      go : (ys : List ℕ) (q : ℕ) → slice_get ys q ≡ Some x → kept wants (drop q ys) ≡ x ∷ kept wants (drop (suc q) ys)
      go [] q g = absurd (cc)
      go (y ∷ ys) zero g = let e : y ≡ x = (cc) in ap (λ z. kept wants (z ∷ ys)) e ∙ ap (λ b. if b then x ∷ kept wants ys else kept wants ys) u
      go (y ∷ ys) (suc q) g = go ys q g

  abbrev Picks : List ℕ → Type 0
  Picks ps = (low next : ℕ) → Rising low ps → next ≤ suc low → ((r : ℕ) → next ≤ r → is_in r ps ≡ is_used us (slice_get xs r)) → picked xs next ps ≡ kept wants (drop next xs)

  other : (r q : ℕ) → (r ≡ q → ⊥) → nat_eq r q ≡ false
  other r q n = go (nat_eq r q) refl
    where
      go : (b : Bool) → nat_eq r q ≡ b → b ≡ false
      go true e = absurd (n (eqb-true r q e))
      go false e = refl

  picks-more : (q : ℕ) (ps : List ℕ) → Picks ps → Picks (q ∷ ps)
  picks-more q ps more low next rise l a = by (nat_lt q next) refl
    where
      known : (r : ℕ) → next ≤ r → (nat_eq r q ≡ false) → is_in r ps ≡ is_used us (slice_get xs r)
      known r m n = sym (ap (λ b. b || is_in r ps) n) ∙ a r m

      before : (r : ℕ) → r < q → is_in r (q ∷ ps) ≡ false
      before r w = ap (λ b. b || is_in r ps) (other r q (λ z. omega (arith, z, w))) ∙ go (is_in r ps) refl
        where
          go : (b : Bool) → is_in r ps ≡ b → b ≡ false
          go true i = let z = least q r ps rise.1 i in absurd (omega (arith, z, w))
          go false i = refl

      at : next ≤ q → (o : Option ℕ) → slice_get xs q ≡ o → standing o (picked xs (suc q) ps) (picked xs next ps) ≡ kept wants (drop next xs)
      at m None g = let u : is_used us None ≡ true = sym (ap (is_used us) g) ∙ sym (a q m) ∙ ap (λ b. b || is_in q ps) (nat-same q) in absurd (cc)
      at m (Some x) g =
          let u : is_in x us ≡ true = sym (ap (is_used us) g) ∙ sym (a q m) ∙ ap (λ b. b || is_in q ps) (nat-same q) in
          let e : next + (q - next) ≡ q = omega (arith, m) in
          ap (λ t. x ∷ t) (more q (suc q) rise.1 (omega arith) (λ r w. known r (omega (arith, w, m)) (other r q (λ z. omega (arith, z, w)))))
          ∙ sym (here q x g u)
          ∙ ap (λ k. kept wants (drop k xs)) (sym e)
          ∙ sym (skip next (q - next) (λ r v w. sym (a r v) ∙ before r (omega (arith, w, e))))

      by : (b : Bool) → nat_lt q next ≡ b → (if b then picked xs next ps else standing (slice_get xs q) (picked xs (suc q) ps) (picked xs next ps)) ≡ kept wants (drop next xs)
      by true w =
          let v : q < next = ltb-true q next w in
          let z = rise.0 in
          more q next rise.1 (omega (arith, l, z)) (λ r m. known r m (other r q (λ c. omega (arith, c, v, m))))
      by false w = at (ltb-false q next w) (slice_get xs q) refl

  picks : (ps : List ℕ) → Picks ps
  picks [] = λ low next rise l a. sym (none-left next (λ r m. sym (a r m)))
  picks (q ∷ ps) = picks-more q ps (picks ps)

  pub picked-kept : (ps : List ℕ) → IsNonDecreasingBy (λ (x : ℕ). x) ps → AtPlaces xs us ps → picked xs 0 ps ≡ kept wants xs
  picked-kept [] h a = picks [] 0 0 tt (omega arith) (λ r m. a r)
  picked-kept (q ∷ ps) h a = picks (q ∷ ps) 0 0 (omega arith, rises q ps h) (omega arith) (λ r m. a r)

pub permuted : (xs us ps qs : List ℕ) → IsPermutation ps qs → AtPlaces xs us ps → AtPlaces xs us qs
permuted xs us ps qs h a p = sym (in-any p qs) ∙ sym (list_any-IsPermutation (nat_eq p) ps qs h) ∙ in-any p ps ∙ a p

-- One place after the other

pub pick-skips : (xs ps : List ℕ) (next i p d : ℕ) (found all : List ℕ) → i < length ps → p ≡ get_or ps i d → p < next → found ++ picked xs next (drop i ps) ≡ all → found ++ picked xs next (drop (i + 1) ps) ≡ all
pick-skips xs ps next i p d found all h is l e =
    ap (λ t. found ++ t) (sym (ap (picked xs next) (drop_more ps i d h ∙ ap (λ z. z ∷ drop (i + 1) ps) (sym is)) ∙ by (nat_lt p next) refl)) ∙ e
  where
    by : (b : Bool) → nat_lt p next ≡ b → (if b then picked xs next (drop (i + 1) ps) else standing (slice_get xs p) (picked xs (suc p) (drop (i + 1) ps)) (picked xs next (drop (i + 1) ps))) ≡ picked xs next (drop (i + 1) ps)
    by true q = refl
    by false q = let m : next ≤ p = ltb-false p next q in absurd (omega (arith, m, l))

pub pick-past : (xs ps : List ℕ) (next i p d : ℕ) (found all : List ℕ) → i < length ps → p ≡ get_or ps i d → slice_get xs p ≡ None → found ++ picked xs next (drop i ps) ≡ all → found ++ picked xs next (drop (i + 1) ps) ≡ all
pick-past xs ps next i p d found all h is g e =
    ap (λ t. found ++ t) (sym (ap (picked xs next) (drop_more ps i d h ∙ ap (λ z. z ∷ drop (i + 1) ps) (sym is)) ∙ by (nat_lt p next) refl)) ∙ e
  where
    by : (b : Bool) → nat_lt p next ≡ b → (if b then picked xs next (drop (i + 1) ps) else standing (slice_get xs p) (picked xs (suc p) (drop (i + 1) ps)) (picked xs next (drop (i + 1) ps))) ≡ picked xs next (drop (i + 1) ps)
    by true q = refl
    by false q = ap (λ o. standing o (picked xs (suc p) (drop (i + 1) ps)) (picked xs next (drop (i + 1) ps))) g

pub pick-takes : (xs ps : List ℕ) (next i p x d : ℕ) (found new all : List ℕ) → i < length ps → p ≡ get_or ps i d → next ≤ p → slice_get xs p ≡ Some x → new ≡ found ++ x ∷ []
    → found ++ picked xs next (drop i ps) ≡ all → new ++ picked xs (p + 1) (drop (i + 1) ps) ≡ all
pick-takes xs ps next i p x d found new all h is l g n e =
    let m : p + 1 ≡ suc p = omega arith in
    ap₂ (λ f k. f ++ picked xs k (drop (i + 1) ps)) n m ∙ assoc found (x ∷ []) (picked xs (suc p) (drop (i + 1) ps))
    ∙ ap (λ t. found ++ t) (sym (ap (picked xs next) (drop_more ps i d h ∙ ap (λ z. z ∷ drop (i + 1) ps) (sym is)) ∙ by (nat_lt p next) refl)) ∙ e
  where
    assoc : (a b c : List ℕ) → (a ++ b) ++ c ≡ a ++ (b ++ c)
    assoc [] b c = refl
    assoc (n ∷ a) b c = ap (λ l. n ∷ l) (assoc a b c)

    by : (b : Bool) → nat_lt p next ≡ b → (if b then picked xs next (drop (i + 1) ps) else standing (slice_get xs p) (picked xs (suc p) (drop (i + 1) ps)) (picked xs next (drop (i + 1) ps))) ≡ x ∷ picked xs (suc p) (drop (i + 1) ps)
    by true q = let m : p < next = ltb-true p next q in absurd (omega (arith, m, l))
    by false q = ap (λ o. standing o (picked xs (suc p) (drop (i + 1) ps)) (picked xs next (drop (i + 1) ps))) g

-- with what an index says

pub placed-none : (vs xs us : List ℕ) (i y d : ℕ) → i < length us → y ≡ get_or us i d → vs ≡ xs → (ps : List ℕ) → position (nat_eq y) xs ≡ None → AtPlaces vs (take i us) ps → AtPlaces vs (take (i + 1) us) ps
placed-none vs xs us i y d h is v ps e a = places-none vs us i y d h is ps (ap (is_in y) v ∙ not-placed y xs e) a

pub placed-some : (vs xs us : List ℕ) (i y d : ℕ) → i < length us → y ≡ get_or us i d → vs ≡ xs → AreDistinct xs → (ps new : List ℕ) (place : ℕ) → position (nat_eq y) xs ≡ Some place → new ≡ ps ++ place ∷ [] → AtPlaces vs (take i us) ps
    → AtPlaces vs (take (i + 1) us) new
placed-some vs xs us i y d h is v dis ps new place e n a =
    let p = placed-at y xs place e in
    places-some vs us i y d h is ps new place (subst AreDistinct (sym v) dis) (ap (is_in y) v ∙ p.1) (ap (index_of y) v ∙ p.0) n a

pub wanted-is : (vs us ps qs rs : List ℕ) {E : Type 0} (r : Result (Vec ℕ Global) E) → AtPlaces vs us ps → IsPermutation ps qs → IsSorted nat_cmp qs → rs ≡ qs → IfOk r (λ found. found.items ≡ picked vs 0 rs)
    → IfOk r (λ found. found.items ≡ kept (λ y. is_in y us) vs)
wanted-is vs us ps qs rs (Ok found) a p s e h = h ∙ ap (picked vs 0) e ∙ picked-kept vs us qs (IsNonDecreasingBy-from_sort (λ x. x) qs s) (permuted vs us ps qs p a)
wanted-is vs us ps qs rs (Err x) a p s e h = h

pub wanted-once : (vs us : List ℕ) {E : Type 0} (r : Result (Vec ℕ Global) E) → AreDistinct vs → IfOk r (λ found. found.items ≡ kept (λ y. is_in y us) vs) → IfOk r (λ found. AreDistinct found.items)
wanted-once vs us (Ok found) d h = subst AreDistinct (sym h) (kept-distinct (λ y. is_in y us) vs d)
wanted-once vs us (Err x) d h = h
