-- Truth values, and lists of which each element is asked, along a loop.
use Rattle.std.proofs.Common.{◌≡◌, ℕ, zero, suc, ◌+◌, ◌-◌, ◌<◌, Bool, true, false, ◌&&◌, List, [], ◌∷◌, map, drop, length, slice_index_or, refl, sym, ap, ◌∙◌, arith}

pub and-false : (a : Bool) → (a && false) ≡ false
and-false true = refl
and-false false = refl

pub and-and : (a b d : Bool) → (a && (b && d)) ≡ ((a && b) && d)
and-and true b d = refl
and-and false b d = refl

pub and-first : (a b : Bool) → (a && b) ≡ true → a ≡ true
and-first true b e = refl
and-first false b e = absurd (cc)

pub not-true : (b : Bool) → (b ≡ true → ⊥) → false ≡ b
not-true true n = absurd (n refl)
not-true false n = refl

pub not-yes : {b : Bool} → b ≡ false → b ≡ true → ⊥
not-yes e f = cc

-- what is asked first, and what comes of it where it is so
pub adds-one : (q e f answer : Bool) → answer ≡ q → (answer ≡ true → e ≡ f) → (q && e) ≡ (answer && f)
adds-one q e f true y k = ap (λ b. b && e) (sym y) ∙ k refl
adds-one q e f false y k = ap (λ b. b && e) (sym y)

pub adds : (p q e f answer : Bool) → answer ≡ (p && q) → (answer ≡ true → e ≡ f) → (p && (q && e)) ≡ (answer && f)
adds p q e f answer y k = and-and p q e ∙ adds-one (p && q) e f answer y k

pub there : {A : Type 0} (xs : List A) (n : ℕ) (x : A) → n < length xs → x ≡ slice_index_or xs n x → drop n xs ≡ x ∷ drop (suc n) xs
there [] n x lt e = absurd (omega arith)
there (y ∷ xs) zero x lt e = ap (λ y. y ∷ xs) (sym e)
there (y ∷ xs) (suc n) x lt e = there xs n x (omega arith) e

pub none-left : {A : Type 0} (xs : List A) (n : ℕ) → n ≡ length xs → drop n xs ≡ []
none-left [] zero e = refl
none-left [] (suc n) e = refl
none-left (x ∷ xs) zero e = absurd (omega arith)
none-left (x ∷ xs) (suc n) e = none-left xs n (omega arith)

pub any-default : {A : Type 0} (xs : List A) (n : ℕ) (d e : A) → n < length xs → slice_index_or xs n d ≡ slice_index_or xs n e
any-default [] n d e lt = absurd (omega arith)
any-default (x ∷ xs) zero d e lt = refl
any-default (x ∷ xs) (suc n) d e lt = any-default xs n d e (omega arith)

pub before : (n : ℕ) → 0 < n → n ≡ suc (n - 1)
before n lt = omega arith

pub one-more : (n : ℕ) → suc n ≡ n + 1
one-more n = omega arith

-- what an element stands for is asked
module _ {A B : Type 0} (f : A → B) where
  pub there-mapped : (xs : List A) (n : ℕ) (x : A) → n < length xs → x ≡ slice_index_or xs n x → drop n (map f xs) ≡ f x ∷ drop (suc n) (map f xs)
  there-mapped [] n x lt e = absurd (omega arith)
  there-mapped (y ∷ xs) zero x lt e = ap (λ y. f y ∷ map f xs) (sym e)
  there-mapped (y ∷ xs) (suc n) x lt e = there-mapped xs n x (omega arith) e

  pub none-mapped : (xs : List A) (n : ℕ) → n ≡ length xs → drop n (map f xs) ≡ []
  none-mapped [] zero e = refl
  none-mapped [] (suc n) e = refl
  none-mapped (x ∷ xs) zero e = absurd (omega arith)
  none-mapped (x ∷ xs) (suc n) e = none-mapped xs n (omega arith)

  module _ (p : B → Bool) (P : List B → Bool) (none : P [] ≡ true) (more : (b : B) (bs : List B) → P (b ∷ bs) ≡ (p b && P bs)) where
    abbrev pub Left : List A → ℕ → Type 0
    Left xs n = P (map f xs) ≡ P (drop n (map f xs))

    next : (xs : List A) (n : ℕ) (x : A) (y : Bool) → n < length xs → x ≡ slice_index_or xs n x → y ≡ p (f x) → Left xs n → P (map f xs) ≡ (y && P (drop (suc n) (map f xs)))
    next xs n x y lt e i w = w ∙ ap P (there-mapped xs n x lt e) ∙ more (f x) (drop (suc n) (map f xs)) ∙ ap (λ q. q && P (drop (suc n) (map f xs))) (sym i)

    pub left-next : (xs : List A) (n : ℕ) (x : A) (y : Bool) → n < length xs → x ≡ slice_index_or xs n x → y ≡ p (f x) → y ≡ true → Left xs n → Left xs (n + 1)
    left-next xs n x y lt e i s w = next xs n x y lt e i w ∙ ap (λ q. q && P (drop (suc n) (map f xs))) s ∙ ap (λ k. P (drop k (map f xs))) (one-more n)

    pub left-stops : (xs : List A) (n : ℕ) (x : A) (y : Bool) → n < length xs → x ≡ slice_index_or xs n x → y ≡ p (f x) → y ≡ false → Left xs n → false ≡ P (map f xs)
    left-stops xs n x y lt e i s w = sym (next xs n x y lt e i w ∙ ap (λ q. q && P (drop (suc n) (map f xs))) s)

    pub left-all : (xs : List A) (n : ℕ) → n ≡ length xs → Left xs n → true ≡ P (map f xs)
    left-all xs n e w = sym (w ∙ ap P (none-mapped xs n e) ∙ none)
