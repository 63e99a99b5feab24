-- Parts of lists, one after the other, and from the last to the first.
use Rattle.std.proofs.Common.{◌≡◌, ◌<◌, ◌≤◌, ◌+◌, ◌-◌, ℕ, zero, suc, List, [], ◌∷◌, ◌++◌, length, drop, get_or, refl, sym, ap, ◌∙◌, append_assoc, arith}
use Rattle.std.specs.Prelude.{flat_map, IfOk, Result, Ok, Err}
use Rattle.scoped_tyvars.specs.Unguarded.{back}

pub append-nil : {A : Type 0} (xs : List A) → xs ++ [] ≡ xs
append-nil [] = refl
append-nil (x ∷ xs) = ap (λ l. x ∷ l) (append-nil xs)

pub drop-at : {A : Type 0} (xs : List A) (i : ℕ) (x : A) → i < length xs → x ≡ get_or xs i x → drop i xs ≡ x ∷ drop (i + 1) xs
drop-at {A = A} xs i x lt e = let s : suc i ≡ i + 1 = omega arith in go xs i lt ∙ ap (λ n. get_or xs i x ∷ drop n xs) s ∙ ap (λ y. y ∷ drop (i + 1) xs) (sym e)
  where
    go : (xs : List A) (i : ℕ) → i < length xs → drop i xs ≡ get_or xs i x ∷ drop (suc i) xs
    go [] i lt = absurd (omega (arith, lt))
    go (x ∷ xs) zero lt = refl
    go (x ∷ xs) (suc i) lt = go xs i (omega (arith, lt))

pub drop-all : {A : Type 0} (xs : List A) (i : ℕ) → length xs ≤ i → drop i xs ≡ []
drop-all [] zero le = refl
drop-all [] (suc i) le = refl
drop-all (x ∷ xs) zero le = absurd (omega (arith, le))
drop-all (x ∷ xs) (suc i) le = drop-all xs i (omega (arith, le))

-- one part more, in front of a rest
pub in-front : {A : Type 0} (now new part rest all : List A) → (now ++ (part ++ rest)) ≡ all → new ≡ now ++ part → new ++ rest ≡ all
in-front now new part rest all e q = ap (λ l. l ++ rest) q ∙ append_assoc now part rest ∙ e

module _ {A B : Type 0} (f : A → List B) where
  pub list-next : (xs : List A) (i : ℕ) (x : A) (now new all : List B) → i < length xs → x ≡ get_or xs i x → now ++ flat_map f (drop i xs) ≡ all → new ≡ now ++ f x
      → new ++ flat_map f (drop (i + 1) xs) ≡ all
  list-next xs i x now new all lt e h q =
      in-front now new (f x) (flat_map f (drop (i + 1) xs)) all (ap (λ l. now ++ flat_map f l) (sym (drop-at xs i x lt e)) ∙ h) q

  pub list-ends : (xs : List A) (i : ℕ) (now all : List B) → length xs ≤ i → now ++ flat_map f (drop i xs) ≡ all → now ≡ all
  list-ends xs i now all le h = sym (append-nil now) ∙ ap (λ l. now ++ flat_map f l) (sym (drop-all xs i le)) ∙ h

  -- from the last on
  pub back-next : (xs : List A) (i : ℕ) (x : A) (old now new : List B) → i < length xs → x ≡ get_or xs i x → now ≡ old ++ back f (drop (i + 1) xs) → new ≡ now ++ f x
      → new ≡ old ++ back f (drop i xs)
  back-next xs i x old now new lt e h q =
      q ∙ ap (λ l. l ++ f x) h ∙ append_assoc old (back f (drop (i + 1) xs)) (f x) ∙ ap (λ l. old ++ back f l) (sym (drop-at xs i x lt e))

module _ {A B : Type 0} (f : A → List B) where
  -- backwards
  pub record BackSoFar (xs : List A) (i : ℕ) (old now : List B) : Type 0 where
    pub most : i ≤ length xs
    pub found : now ≡ old ++ back f (drop i xs)

  pub back-begins : (xs : List A) (i : ℕ) (old : List B) → i ≡ length xs → BackSoFar xs i old old
  back-begins xs i old e = record { most = omega (arith, e); found = sym (ap (λ l. old ++ back f l) (drop-all xs i (omega (arith, e))) ∙ append-nil old) }

  pub back-goes : (xs : List A) (i : ℕ) (x : A) (old now new : List B) → BackSoFar xs i old now → 0 < i → x ≡ get_or xs (i - 1) x → new ≡ now ++ f x → BackSoFar xs (i - 1) old new
  back-goes xs i x old now new h pos e q =
      let m = h.most in
      let up : i ≡ (i - 1) + 1 = omega (arith, pos) in
      record {
        most = omega (arith, m);
        found = back-next f xs (i - 1) x old now new (omega (arith, m, pos)) e (h.found ∙ ap (λ n. old ++ back f (drop n xs)) up) q;
      }

  pub back-ends : (xs : List A) (i : ℕ) (old now : List B) → i ≤ 0 → BackSoFar xs i old now → now ≡ old ++ back f xs
  back-ends xs i old now le h = let z : i ≡ 0 = omega (arith, le) in h.found ∙ ap (λ n. old ++ back f (drop n xs)) z

-- two parts, one behind the other
pub both-parts : {B : Type 0} (old now a b new all : List B) → now ≡ old ++ a → new ≡ now ++ b → a ++ b ≡ all → new ≡ old ++ all
both-parts old now a b new all p q e = q ∙ ap (λ l. l ++ b) p ∙ append_assoc old a b ∙ ap (λ l. old ++ l) e

pub if-ok : {A E : Type 0} {P Q : A → Type 0} (r : Result A E) → ((x : A) → P x → Q x) → IfOk r P → IfOk r Q
if-ok (Ok x) f h = f x h
if-ok (Err e) f h = h

pub nothing-found : {B : Type 0} (old all : List B) → all ≡ [] → old ≡ old ++ all
nothing-found old all e = sym (append-nil old) ∙ ap (λ l. old ++ l) (sym e)
