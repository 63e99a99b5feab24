-- The functions of a set have tags of their own, whatever the sets are; and 0, 1, 2 and so on where no function stands twice in them, as in those by type.
use Rattle.std.proofs.Common.{◌≡◌, ℕ, zero, suc, ◌+◌, ◌≤◌, Bool, true, false, ◌||◌, List, [], ◌∷◌, ◌++◌, map, length, Option, Some, None, nat_eq, if◌then◌else◌, get_or, refl, sym, ap, subst, ◌∙◌, arith}
use Rattle.std.specs.List.{concat}
use mathlib.Core.Logic.{◌⊎◌, inl, inr}
use Rattle.flow_sets.specs.Member.{is_in}
use Rattle.flow_sets.specs.ByType.{What, value, name, parameter, Bound, bound_in, bound, is_of}
use Rattle.flow_sets.proofs.Member.{nat_eq-to, nat_eq-same, or_left}
use Rattle.closure_convert.specs.Scope.{index_of}
use Rattle.closure_meaning.specs.Convert.{Numbering, set_of}
use Rattle.closure_whole.specs.Rising.{is_function, functions_from, above, rising_from, rising}
use Rattle.closure_whole.specs.Tags.{stand_once, place_in, tag_by, Count, AreDense}
use Rattle.closure_whole.specs.Whole.{explicit}
use Rattle.closure_whole.specs.Converted.{numbering}
use Rattle.closure_whole.specs.Laws.{TagsAreApart, TagsAreDense, WithoutFunctionsDense}
use Rattle.closure_whole.proofs.Rise.{among-functions}

-- Members of lists

or-right : (a : Bool) {d : Bool} → d ≡ true → (a || d) ≡ true
or-right true h = refl
or-right false h = h

is-false : (b : Bool) → (b ≡ true → ⊥) → b ≡ false
is-false true h = absurd (h refl)
is-false false h = refl

in-left : (k : ℕ) (xs ys : List ℕ) → is_in k xs ≡ true → is_in k (xs ++ ys) ≡ true
in-left k [] ys h = absurd (cc)
in-left k (x ∷ xs) ys h = by (nat_eq k x) h (in-left k xs ys)
  where
    by : (b : Bool) → (b || is_in k xs) ≡ true → (is_in k xs ≡ true → is_in k (xs ++ ys) ≡ true) → (b || is_in k (xs ++ ys)) ≡ true
    by true h more = refl
    by false h more = more h

in-right : (k : ℕ) (xs ys : List ℕ) → is_in k ys ≡ true → is_in k (xs ++ ys) ≡ true
in-right k [] ys h = h
in-right k (x ∷ xs) ys h = or-right (nat_eq k x) (in-right k xs ys h)

in-either : (k : ℕ) (xs ys : List ℕ) → is_in k (xs ++ ys) ≡ true → (is_in k xs ≡ true) ⊎ (is_in k ys ≡ true)
in-either k [] ys h = inr h
in-either k (x ∷ xs) ys h = by (nat_eq k x) h (in-either k xs ys)
  where
    by : (b : Bool) → (b || is_in k (xs ++ ys)) ≡ true → (is_in k (xs ++ ys) ≡ true → (is_in k xs ≡ true) ⊎ (is_in k ys ≡ true)) → ((b || is_in k xs) ≡ true) ⊎ (is_in k ys ≡ true)
    by true h more = inl refl
    by false h more = more h

in-sets : (k : ℕ) (sets : List (List ℕ)) (i : ℕ) → is_in k (get_or sets i []) ≡ true → is_in k (concat sets) ≡ true
in-sets k [] i h = absurd (cc)
in-sets k (s ∷ sets) zero h = in-left k s (concat sets) h
in-sets k (s ∷ sets) (suc i) h = in-right k s (concat sets) (in-sets k sets i h)

-- Standing once

once-rest : (k : ℕ) (ks : List ℕ) → stand_once (k ∷ ks) ≡ true → (is_in k ks ≡ false) × (stand_once ks ≡ true)
once-rest k ks h = by (is_in k ks) refl h
  where
    by : (b : Bool) → is_in k ks ≡ b → (if b then false else stand_once ks) ≡ true → (is_in k ks ≡ false) × (stand_once ks ≡ true)
    by true e h = absurd (cc)
    by false e h = (e, h)

once-more : (k : ℕ) (ks : List ℕ) → is_in k ks ≡ false → stand_once ks ≡ true → stand_once (k ∷ ks) ≡ true
once-more k ks e h = ap (λ b. if b then false else stand_once ks) e ∙ h

once-left : (xs ys : List ℕ) → stand_once (xs ++ ys) ≡ true → stand_once xs ≡ true
once-left [] ys h = refl
once-left (x ∷ xs) ys h =
    let r = once-rest x (xs ++ ys) h in
    once-more x xs (is-false (is_in x xs) (λ i. let j = in-left x xs ys i in absurd (cc))) (once-left xs ys r.1)

once-right : (xs ys : List ℕ) → stand_once (xs ++ ys) ≡ true → stand_once ys ≡ true
once-right [] ys h = h
once-right (x ∷ xs) ys h = once-right xs ys (once-rest x (xs ++ ys) h).1

once-apart : (xs ys : List ℕ) (k : ℕ) → stand_once (xs ++ ys) ≡ true → is_in k xs ≡ true → is_in k ys ≡ true → ⊥
once-apart [] ys k h i j = absurd (cc)
once-apart (x ∷ xs) ys k h i j = by (nat_eq k x) (nat_eq-to k x) i (λ i. once-apart xs ys k (once-rest x (xs ++ ys) h).1 i j)
  where
    by : (b : Bool) → (b ≡ true → k ≡ x) → (b || is_in k xs) ≡ true → (is_in k xs ≡ true → ⊥) → ⊥
    by true e i more =
        let f = (once-rest x (xs ++ ys) h).0 in
        let g : is_in x (xs ++ ys) ≡ true = subst (λ z. is_in z (xs ++ ys) ≡ true) (e refl) (in-right k xs ys j) in cc
    by false e i more = more i

once-both : (xs ys : List ℕ) → stand_once xs ≡ true → stand_once ys ≡ true → ((k : ℕ) → is_in k xs ≡ true → is_in k ys ≡ true → ⊥) → stand_once (xs ++ ys) ≡ true
once-both [] ys a b h = b
once-both (x ∷ xs) ys a b h =
    once-more x (xs ++ ys) (is-false (is_in x (xs ++ ys)) (λ i. neither (in-either x xs ys i)))
    (once-both xs ys (once-rest x xs a).1 b (λ k i j. h k (or-right (nat_eq k x) i) j))
  where
    neither : (is_in x xs ≡ true) ⊎ (is_in x ys ≡ true) → ⊥
    neither (inl i) = let f = (once-rest x xs a).0 in cc
    neither (inr i) = h x (or_left (nat_eq x x) (is_in x xs) (nat_eq-same x)) i

-- Tags

place-is : (sets : List (List ℕ)) (i k : ℕ) → stand_once (concat sets) ≡ true → is_in k (get_or sets i []) ≡ true → place_in sets k ≡ index_of k (get_or sets i [])
place-is [] i k o h = absurd (cc)
place-is (s ∷ sets) zero k o h = ap (λ b. if b then index_of k s else place_in sets k) h
place-is (s ∷ sets) (suc i) k o h = by (is_in k s) refl (place-is sets i k (once-right s (concat sets) o) h)
  where
    by : (b : Bool) → is_in k s ≡ b → place_in sets k ≡ index_of k (get_or sets i []) → (if b then index_of k s else place_in sets k) ≡ index_of k (get_or sets i [])
    by true e more = absurd (once-apart s (concat sets) k o e (in-sets k sets i h))
    by false e more = more

index-apart : (xs : List ℕ) (j k : ℕ) → is_in j xs ≡ true → is_in k xs ≡ true → index_of j xs ≡ index_of k xs → j ≡ k
index-apart [] j k h i e = absurd (cc)
index-apart (x ∷ xs) j k h i e = by (nat_eq j x) (nat_eq k x) (nat_eq-to j x) (nat_eq-to k x) h i e (index-apart xs j k)
  where
    by : (a b : Bool) → (a ≡ true → j ≡ x) → (b ≡ true → k ≡ x) → (a || is_in j xs) ≡ true → (b || is_in k xs) ≡ true → (if a then zero else suc (index_of j xs)) ≡ (if b then zero else suc (index_of k xs))
        → (is_in j xs ≡ true → is_in k xs ≡ true → index_of j xs ≡ index_of k xs → j ≡ k) → j ≡ k
    by true true p q h i e more = p refl ∙ sym (q refl)
    by true false p q h i e more = absurd (omega (arith, e))
    by false true p q h i e more = absurd (omega (arith, e))
    by false false p q h i e more = more h i (omega (arith, e))

sets-apart : (sets : List (List ℕ)) (set j k : ℕ) → is_in j (get_or sets set []) ≡ true → is_in k (get_or sets set []) ≡ true → tag_by sets j ≡ tag_by sets k → j ≡ k
sets-apart sets set j k h i e = by (stand_once (concat sets)) refl e
  where
    by : (b : Bool) → stand_once (concat sets) ≡ b → (if b then place_in sets j else j) ≡ (if b then place_in sets k else k) → j ≡ k
    by true o e = index-apart (get_or sets set []) j k h i (sym (place-is sets set j o h) ∙ (e ∙ place-is sets set k o i))
    by false o e = e

pub tags-are-apart : TagsAreApart
tags-are-apart strings F p set j k h i e = sets-apart F.sets set j k h i e

count-from : (n : Numbering) (ks : List ℕ) (i : ℕ) → stand_once ks ≡ true → ((k : ℕ) → is_in k ks ≡ true → n.tag k ≡ i + index_of k ks) → Count i (set_of n ks)
count-from n [] i o h = tt
count-from n (k ∷ ks) i o h = (first, count-from n ks (suc i) (once-rest k ks o).1 later)
  where
    first : n.tag k ≡ i
    first =
        let e : n.tag k ≡ i + index_of k (k ∷ ks) = h k (or_left (nat_eq k k) (is_in k ks) (nat_eq-same k)) in
        let z : index_of k (k ∷ ks) ≡ 0 = ap (λ b. if b then zero else suc (index_of k ks)) (nat_eq-same k) in omega (arith, e, z)

    other : (j : ℕ) → is_in j ks ≡ true → nat_eq j k ≡ true → ⊥
    other j q t =
        let f = (once-rest k ks o).0 in
        let g : is_in k ks ≡ true = subst (λ z. is_in z ks ≡ true) (nat_eq-to j k t) q in cc

    later : (j : ℕ) → is_in j ks ≡ true → n.tag j ≡ suc i + index_of j ks
    later j q =
        let e : n.tag j ≡ i + index_of j (k ∷ ks) = h j (or-right (nat_eq j k) q) in
        let z : index_of j (k ∷ ks) ≡ suc (index_of j ks) = ap (λ b. if b then zero else suc (index_of j ks)) (is-false (nat_eq j k) (other j q)) in
        omega (arith, e, z)

all-count : (n : Numbering) (sets : List (List ℕ)) → stand_once (concat sets) ≡ true → ((i k : ℕ) → is_in k (get_or sets i []) ≡ true → n.tag k ≡ index_of k (get_or sets i [])) → AreDense (map (set_of n) sets)
all-count n [] o h = tt
all-count n (s ∷ sets) o h = (
  count-from n s 0 (once-left s (concat sets) o) (λ k i. h 0 k i ∙ (let z : index_of k s ≡ 0 + index_of k s = omega arith in z)),
  all-count n sets (once-right s (concat sets) o) (λ i k q. h (suc i) k q),
)

pub tags-are-dense : TagsAreDense
tags-are-dense strings F p o = all-count (numbering strings F p) F.sets o (λ i k h. ap (λ b. if b then place_in F.sets k else k) o ∙ place-is F.sets i k o h)

-- Sets by type

from-on : (t k x m : ℕ) (bs : List Bound) → is_in k (functions_from t x m bs) ≡ true → x ≤ k
from-on t k x zero bs i = absurd (cc)
from-on t k x (suc m) bs i = by (is_function t (bound_in x bs)) i (λ i. let l = from-on t k (suc x) m bs i in omega (arith, l))
  where
    at : (c : Bool) → (c ≡ true → k ≡ x) → (is_in k (functions_from t (suc x) m bs) ≡ true → x ≤ k) → (c || is_in k (functions_from t (suc x) m bs)) ≡ true → x ≤ k
    at true e later i = let q = e refl in omega (arith, q)
    at false e later i = later i

    by : (b : Bool) → is_in k (if b then x ∷ functions_from t (suc x) m bs else functions_from t (suc x) m bs) ≡ true → (is_in k (functions_from t (suc x) m bs) ≡ true → x ≤ k) → x ≤ k
    by true i later = at (nat_eq k x) (nat_eq-to k x) later i
    by false i later = later i

functions-once : (t x m : ℕ) (bs : List Bound) → stand_once (functions_from t x m bs) ≡ true
functions-once t x zero bs = refl
functions-once t x (suc m) bs = by (is_function t (bound_in x bs)) (functions-once t (suc x) m bs)
  where
    by : (b : Bool) → stand_once (functions_from t (suc x) m bs) ≡ true → stand_once (if b then x ∷ functions_from t (suc x) m bs else functions_from t (suc x) m bs) ≡ true
    by true more =
        once-more x (functions_from t (suc x) m bs)
        (is-false (is_in x (functions_from t (suc x) m bs)) (λ i. let l = from-on t x (suc x) m bs i in absurd (omega (arith, l)))) more
    by false more = more

-- a function has one type
one-type : (t u : ℕ) (o : Option Bound) → is_function t o ≡ true → is_function u o ≡ true → t ≡ u
one-type t u None h i = absurd (cc)
one-type t u (Some b) h i = by b.what h i
  where
    by : (w : What) → is_of t w ≡ true → is_of u w ≡ true → t ≡ u
    by (value v) h i = absurd (cc)
    by name h i = absurd (cc)
    by (parameter v) h i = nat_eq-to t v h ∙ sym (nat_eq-to u v i)

record HasType (t k : ℕ) (bs : List Bound) : Type 0 where
  type : ℕ
  later : t ≤ type
  is : is_function type (bound_in k bs) ≡ true

later-type : (t k m : ℕ) (bs : List Bound) → is_in k (concat (rising_from t m bs)) ≡ true → HasType t k bs
later-type t k zero bs h = absurd (cc)
later-type t k (suc m) bs h = by (in-either k (functions_from t zero (above bs) bs) (concat (rising_from (suc t) m bs)) h) (later-type (suc t) k m bs)
  where
    by : (is_in k (functions_from t zero (above bs) bs) ≡ true) ⊎ (is_in k (concat (rising_from (suc t) m bs)) ≡ true)
        → (is_in k (concat (rising_from (suc t) m bs)) ≡ true → HasType (suc t) k bs) → HasType t k bs
    by (inl i) more = record { type = t; later = omega arith; is = among-functions t k zero (above bs) bs i }
    by (inr i) more = let w = more i in let l = w.later in record { type = w.type; later = omega (arith, l); is = w.is }

pub rising-once : (t m : ℕ) (bs : List Bound) → stand_once (concat (rising_from t m bs)) ≡ true
rising-once t zero bs = refl
rising-once t (suc m) bs =
    once-both (functions_from t zero (above bs) bs) (concat (rising_from (suc t) m bs)) (functions-once t zero (above bs) bs) (rising-once (suc t) m bs) (λ k i j.
    let w = later-type (suc t) k m bs j in
    let e : t ≡ w.type = one-type t w.type (bound_in k bs) (among-functions t k zero (above bs) bs i) w.is in
    let l = w.later in absurd (omega (arith, e, l)))

pub without-functions-dense : WithoutFunctionsDense
without-functions-dense strings p = tags-are-dense strings (rising (explicit p)) (explicit p) (rising-once 0 (length p.types) (bound p.types (explicit p).body))
