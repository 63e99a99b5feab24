-- Members of lists, and their places.
use Rattle.std.proofs.Common.{◌≡◌, ℕ, zero, suc, ◌+◌, ◌<◌, Bool, true, false, ◌||◌, not, List, [], ◌∷◌, ◌++◌, reverse, length, Some, nat_eq, if◌then◌else◌, slice_get, refl, sym, ap, ap₂, ◌∙◌, arith}
use Rattle.std.specs.List.{position_or_len, IsDistinct, list_any, AllByRecursion}
use Rattle.std.proofs.lemmas.Bool.{eqb-true, eq-eqb}
use Rattle.std.proofs.lemmas.List.{reverse-append}
use Rattle.std.proofs.lemmas.Map.Keys.{IsDistinct-head, IsDistinct-tail}
use Rattle.closure_convert.specs.of_flow_sets.Member.{is_in}
use Rattle.closure_convert.specs.Scope.{index_of}
use Rattle.closure_convert.specs.Counts.{AreDistinct}

pub nat-same : (n : ℕ) → nat_eq n n ≡ true
nat-same n = eq-eqb n n refl

pub or-assoc : (a b c : Bool) → ((a || b) || c) ≡ (a || (b || c))
or-assoc true b c = refl
or-assoc false b c = refl

pub or-false : (a : Bool) → (a || false) ≡ a
or-false true = refl
or-false false = refl

pub or-comm : (a b : Bool) → (a || b) ≡ (b || a)
or-comm true true = refl
or-comm true false = refl
or-comm false true = refl
or-comm false false = refl

pub in-append : (y : ℕ) (xs ys : List ℕ) → is_in y (xs ++ ys) ≡ (is_in y xs || is_in y ys)
in-append y [] ys = refl
in-append y (x ∷ xs) ys = ap (λ b. nat_eq y x || b) (in-append y xs ys) ∙ sym (or-assoc (nat_eq y x) (is_in y xs) (is_in y ys))

pub in-reverse : (y : ℕ) (xs : List ℕ) → is_in y (reverse xs) ≡ is_in y xs
in-reverse y [] = refl
in-reverse y (x ∷ xs) =
    ap (is_in y) (reverse-append (x ∷ []) xs) ∙ in-append y (reverse xs) (x ∷ []) ∙ ap₂ (λ a b. a || b) (in-reverse y xs) (or-false (nat_eq y x)) ∙ or-comm (is_in y xs) (nat_eq y x)

pub in-any : (y : ℕ) (xs : List ℕ) → list_any (nat_eq y) xs ≡ is_in y xs
in-any y [] = refl
in-any y (x ∷ xs) = ap (λ b. nat_eq y x || b) (in-any y xs)

-- Places

place-by : (b : Bool) (n m : ℕ) → n ≡ m → (if not b then 1 + n else 0) ≡ (if b then zero else suc m)
place-by true n m e = refl
place-by false n m e = omega (arith, e)

pub place-is : (y : ℕ) (xs : List ℕ) → position_or_len (nat_eq y) xs ≡ index_of y xs
place-is y [] = refl
place-is y (x ∷ xs) = place-by (nat_eq y x) (position_or_len (nat_eq y) xs) (index_of y xs) (place-is y xs)

in-by : (b c : Bool) (n l : ℕ) → (c ≡ true → n < l) → (b || c) ≡ true → (if b then zero else suc n) < suc l
in-by true c n l f h = omega arith
in-by false c n l f h = let i = f h in omega (arith, i)

pub index-in : (y : ℕ) (xs : List ℕ) → is_in y xs ≡ true → index_of y xs < length xs
index-in y [] h = absurd (cc)
index-in y (x ∷ xs) h = in-by (nat_eq y x) (is_in y xs) (index_of y xs) (length xs) (λ k. index-in y xs k) h

out-by : (b c : Bool) (n l : ℕ) → (c ≡ false → n ≡ l) → (b || c) ≡ false → (if b then zero else suc n) ≡ suc l
out-by true c n l f h = absurd (cc)
out-by false c n l f h = ap suc (f h)

pub index-out : (y : ℕ) (xs : List ℕ) → is_in y xs ≡ false → index_of y xs ≡ length xs
index-out y [] h = refl
index-out y (x ∷ xs) h = out-by (nat_eq y x) (is_in y xs) (index_of y xs) (length xs) (λ k. index-out y xs k) h

front-by : (b c : Bool) (n m : ℕ) → (c ≡ true → n ≡ m) → (b || c) ≡ true → (if b then zero else suc n) ≡ (if b then zero else suc m)
front-by true c n m f h = refl
front-by false c n m f h = ap suc (f h)

pub index-front : (y : ℕ) (xs ys : List ℕ) → is_in y xs ≡ true → index_of y (xs ++ ys) ≡ index_of y xs
index-front y [] ys h = absurd (cc)
index-front y (x ∷ xs) ys h = front-by (nat_eq y x) (is_in y xs) (index_of y (xs ++ ys)) (index_of y xs) (λ k. index-front y xs ys k) h

back-by : (b c : Bool) (n l m : ℕ) → (c ≡ false → n ≡ l + m) → (b || c) ≡ false → (if b then zero else suc n) ≡ suc l + m
back-by true c n l m f h = absurd (cc)
back-by false c n l m f h = let i = f h in omega (arith, i)

pub index-back : (y : ℕ) (xs ys : List ℕ) → is_in y xs ≡ false → index_of y (xs ++ ys) ≡ length xs + index_of y ys
index-back y [] ys h = omega arith
index-back y (x ∷ xs) ys h = back-by (nat_eq y x) (is_in y xs) (index_of y (xs ++ ys)) (length xs) (index_of y ys) (λ k. index-back y xs ys k) h

get-by : (y x : ℕ) (xs : List ℕ) (b c : Bool) (n : ℕ) → nat_eq y x ≡ b → (c ≡ true → slice_get xs n ≡ Some y) → (b || c) ≡ true → slice_get (x ∷ xs) (if b then zero else suc n) ≡ Some y
get-by y x xs true c n q f h = ap Some (sym (eqb-true y x q))
get-by y x xs false c n q f h = f h

pub index-get : (y : ℕ) (xs : List ℕ) → is_in y xs ≡ true → slice_get xs (index_of y xs) ≡ Some y
index-get y [] h = absurd (cc)
index-get y (x ∷ xs) h = get-by y x xs (nat_eq y x) (is_in y xs) (index_of y xs) refl (λ k. index-get y xs k) h

pub get-in : (xs : List ℕ) (p x : ℕ) → slice_get xs p ≡ Some x → is_in x xs ≡ true
get-in [] p x h = absurd (cc)
get-in (z ∷ xs) zero x h = let e : z ≡ x = (cc) in ap (λ b. b || is_in x xs) (ap (nat_eq x) e ∙ nat-same x)
get-in (z ∷ xs) (suc p) x h = let i = get-in xs p x h in ap (λ b. nat_eq x z || b) i ∙ or-comm (nat_eq x z) true

once-by : (x z : ℕ) (xs : List ℕ) (p : ℕ) (b : Bool) → nat_eq x z ≡ b → is_in z xs ≡ false → is_in x xs ≡ true → index_of x xs ≡ p → (if b then zero else suc (index_of x xs)) ≡ suc p
once-by x z xs p true q o i e = let w : is_in x xs ≡ false = ap (λ y. is_in y xs) (eqb-true x z q) ∙ o in absurd (cc)
once-by x z xs p false q o i e = ap suc e

-- what is in a list that has each once stands at one place
pub get-index : (xs : List ℕ) (p x : ℕ) → AreDistinct xs → slice_get xs p ≡ Some x → index_of x xs ≡ p
get-index [] p x d h = absurd (cc)
get-index (z ∷ xs) zero x d h = let e : z ≡ x = (cc) in ap (λ b. if b then zero else suc (index_of x xs)) (ap (nat_eq x) e ∙ nat-same x)
get-index (z ∷ xs) (suc p) x d h = once-by x z xs p (nat_eq x z) refl d.0 (get-in xs p x h) (get-index xs p x d.1 h)

-- what an index has is there once
none-equal : (x : ℕ) (xs : List ℕ) → AllByRecursion (λ y. nat_eq x y ≡ false) xs → is_in x xs ≡ false
none-equal x [] h = refl
none-equal x (y ∷ xs) h = ap₂ (λ a b. a || b) h.0 (none-equal x xs h.1)

pub distinct : (xs : List ℕ) → IsDistinct nat_eq xs → AreDistinct xs
distinct [] h = tt
distinct (x ∷ xs) h = (none-equal x xs (IsDistinct-head nat_eq x xs h), distinct xs (IsDistinct-tail nat_eq x xs h))

-- in two lists that have each once together
behind : (b c : Bool) → (b || c) ≡ false → c ≡ false
behind true c h = absurd (cc)
behind false c h = h

apart-by : (y x : ℕ) (xs ys : List ℕ) (b c : Bool) → nat_eq y x ≡ b → is_in x (xs ++ ys) ≡ false → (c ≡ true → is_in y ys ≡ false) → (b || c) ≡ true → is_in y ys ≡ false
apart-by y x xs ys true c q d f h = behind (is_in y xs) (is_in y ys) (sym (in-append y xs ys) ∙ ap (λ z. is_in z (xs ++ ys)) (eqb-true y x q) ∙ d)
apart-by y x xs ys false c q d f h = f h

pub apart : (y : ℕ) (xs ys : List ℕ) → AreDistinct (xs ++ ys) → is_in y xs ≡ true → is_in y ys ≡ false
apart y [] ys d h = absurd (cc)
apart y (x ∷ xs) ys d h = apart-by y x xs ys (nat_eq y x) (is_in y xs) refl d.0 (λ k. apart y xs ys d.1 k) h

pub distinct-back : (xs ys : List ℕ) → AreDistinct (xs ++ ys) → AreDistinct ys
distinct-back [] ys d = d
distinct-back (x ∷ xs) ys d = distinct-back xs ys d.1
