-- How many stand in front.
use Rattle.std.proofs.Common.{◌≡◌, ℕ, zero, suc, ◌+◌, ◌<◌, ◌≤◌, Bool, true, false, List, [], ◌∷◌, drop, length, get_or, if◌then◌else◌, refl, sym, ap, ◌∙◌, arith}
use Rattle.std.proofs.lemmas.List.{drop_more}
use Rattle.closure_steps.specs.Cases.{leading}
use Rattle.closure_parts.proofs.Putting.{all-behind}

module _ {A : Type 0} (p : A → Bool) where
  pub leading-within : (xs : List A) → leading p xs ≤ length xs
  leading-within [] = omega arith
  leading-within (x ∷ xs) = by (p x) (leading-within xs)
    where
      by : (b : Bool) → leading p xs ≤ length xs → (if b then suc (leading p xs) else 0) ≤ suc (length xs)
      by true h = omega (arith, h)
      by false h = omega arith

  leading-by : (x : A) (xs : List A) (b : Bool) → p x ≡ b → leading p (x ∷ xs) ≡ (if b then suc (leading p xs) else 0)
  leading-by x xs b h = ap (λ (q : Bool). if q then suc (leading p xs) else 0) h

  module _ (xs : List A) (i : ℕ) (x d : A) (lt : i < length xs) (is : x ≡ get_or xs i d) (inv : leading p xs ≡ i + leading p (drop i xs)) where
    ahead : leading p (drop i xs) ≡ leading p (x ∷ drop (i + 1) xs)
    ahead = ap (leading p) (drop_more xs i d lt ∙ ap (λ y. y ∷ drop (i + 1) xs) (sym is))

    pub leading-next : p x ≡ true → leading p xs ≡ (i + 1) + leading p (drop (i + 1) xs)
    leading-next h =
        let a = ahead in
        let b = leading-by x (drop (i + 1) xs) true h in
        omega (arith, a, b, inv)

    pub leading-stop : p x ≡ false → i ≡ leading p xs
    leading-stop h =
        let a = ahead in
        let b = leading-by x (drop (i + 1) xs) false h in
        omega (arith, a, b, inv)

  pub leading-all : (xs : List A) (i : ℕ) → length xs ≤ i → leading p xs ≡ i + leading p (drop i xs) → length xs ≡ leading p xs
  leading-all xs i le inv =
      let a : leading p (drop i xs) ≡ 0 = ap (leading p) (all-behind xs i le) in
      let b = leading-within xs in
      omega (arith, a, b, le, inv)

  is-at : (d : A) (xs : List A) (i : ℕ) → i < leading p xs → p (get_or xs i d) ≡ true
  is-at d [] i lt = absurd (omega (arith, lt))
  is-at d (y ∷ ys) i lt = by (p y) refl (λ j h. is-at d ys j h) i lt
    where
      by : (b : Bool) → p y ≡ b → ((j : ℕ) → j < leading p ys → p (get_or ys j d) ≡ true) → (i : ℕ) → i < (if b then suc (leading p ys) else 0) → p (get_or (y ∷ ys) i d) ≡ true
      by true h r zero lt = h
      by true h r (suc i) lt = r i (omega (arith, lt))
      by false h r i lt = absurd (omega (arith, lt))

  -- each of those in front is one
  pub leading-is : (xs : List A) (i : ℕ) (x d : A) → i < leading p xs → x ≡ get_or xs i d → p x ≡ true
  leading-is xs i x d lt is = ap p is ∙ is-at d xs i lt

  -- the first of what is behind them is none
  pub leading-none : (xs : List A) → leading p (drop (leading p xs) xs) ≡ 0
  leading-none [] = refl
  leading-none (x ∷ xs) = by (p x) refl (leading-none xs)
    where
      by : (b : Bool) → p x ≡ b → leading p (drop (leading p xs) xs) ≡ 0 → leading p (drop (if b then suc (leading p xs) else 0) (x ∷ xs)) ≡ 0
      by true h r = r
      by false h r = leading-by x xs false h

  pub none-first : (x : A) (xs : List A) → leading p (x ∷ xs) ≡ 0 → p x ≡ false
  none-first x xs = by (p x)
    where
      by : (b : Bool) → (if b then suc (leading p xs) else 0) ≡ 0 → b ≡ false
      by true h = absurd (omega (arith, h))
      by false h = refl
