-- One element more along a list.
use Rattle.std.proofs.Common.{◌≡◌, ℕ, zero, suc, ◌+◌, ◌-◌, ◌<◌, ◌≤◌, Bool, true, false, ◌&&◌, List, [], ◌∷◌, length, drop, get_or, refl, sym, ap, ◌∙◌, arith}
use Rattle.prog_known.specs.Lists.{run, hold, all_hold}

module _ {A : Type 0} where
  pub drop-next : (xs : List A) (i : ℕ) (d : A) → i < length xs → drop i xs ≡ get_or xs i d ∷ drop (i + 1) xs
  drop-next xs i d lt = let e : suc i ≡ i + 1 = omega arith in go xs i lt ∙ ap (λ n. get_or xs i d ∷ drop n xs) e
    where
      go : (xs : List A) (i : ℕ) → i < length xs → drop i xs ≡ get_or xs i d ∷ drop (suc i) xs
      go [] i lt = absurd (omega (arith, lt))
      go (x ∷ xs) zero lt = refl
      go (x ∷ xs) (suc i) lt = go xs i (omega (arith, lt))

  pub drop-next-is : (xs : List A) (i : ℕ) (x : A) → i < length xs → x ≡ get_or xs i x → drop i xs ≡ x ∷ drop (i + 1) xs
  drop-next-is xs i x lt e = drop-next xs i x lt ∙ ap (λ y. y ∷ drop (i + 1) xs) (sym e)

  pub drop-all : (xs : List A) (i : ℕ) → length xs ≤ i → drop i xs ≡ []
  drop-all [] zero le = refl
  drop-all [] (suc i) le = refl
  drop-all (x ∷ xs) zero le = absurd (omega (arith, le))
  drop-all (x ∷ xs) (suc i) le = drop-all xs i (omega (arith, le))

module _ {A S : Type 0} (step : A → List A → S → S) (xs : List A) where
  pub run-next : (i : ℕ) (x : A) (s : S) → drop i xs ≡ x ∷ drop (i + 1) xs → run step (drop i xs) s ≡ run step (drop (i + 1) xs) (step x (drop (i + 1) xs) s)
  run-next i x s e = ap (λ l. run step l s) e

and-assoc : (a b c : Bool) → ((a && b) && c) ≡ (a && (b && c))
and-assoc true b c = refl
and-assoc false b c = refl

module _ {A S : Type 0} (is_right : S → A → List A → Bool) (next : S → A → S) (xs : List A) where
  -- yes so far, and the rest
  pub hold-next : (i : ℕ) (x : A) (s : S) (so_far one whole : Bool) → drop i xs ≡ x ∷ drop (i + 1) xs → one ≡ is_right s x (drop (i + 1) xs) → (so_far && hold is_right next s (drop i xs)) ≡ whole
      → ((so_far && one) && hold is_right next (next s x) (drop (i + 1) xs)) ≡ whole
  hold-next i x s so_far one whole e o w =
      and-assoc so_far one (hold is_right next (next s x) (drop (i + 1) xs)) ∙ ap (λ b. so_far && (b && hold is_right next (next s x) (drop (i + 1) xs))) o
      ∙ ap (λ l. so_far && hold is_right next s l) (sym e) ∙ w

  pub hold-ends : (i : ℕ) (s : S) (so_far whole : Bool) → length xs ≤ i → (so_far && hold is_right next s (drop i xs)) ≡ whole → so_far ≡ whole
  hold-ends i s so_far whole le w = sym (and-true so_far) ∙ ap (λ l. so_far && hold is_right next s l) (sym (drop-all xs i le)) ∙ w
    where
      and-true : (a : Bool) → (a && true) ≡ a
      and-true true = refl
      and-true false = refl

module _ {A : Type 0} (is_right : A → Bool) (xs : List A) where
  pub all-next : (i : ℕ) (x : A) (so_far one whole : Bool) → drop i xs ≡ x ∷ drop (i + 1) xs → one ≡ is_right x → (so_far && all_hold is_right (drop i xs)) ≡ whole
      → ((so_far && one) && all_hold is_right (drop (i + 1) xs)) ≡ whole
  all-next i x so_far one whole e o w =
      and-assoc so_far one (all_hold is_right (drop (i + 1) xs)) ∙ ap (λ b. so_far && (b && all_hold is_right (drop (i + 1) xs))) o ∙ ap (λ l. so_far && all_hold is_right l) (sym e) ∙ w

  pub all-ends : (i : ℕ) (so_far whole : Bool) → length xs ≤ i → (so_far && all_hold is_right (drop i xs)) ≡ whole → so_far ≡ whole
  all-ends i so_far whole le w = sym (and-true so_far) ∙ ap (λ l. so_far && all_hold is_right l) (sym (drop-all xs i le)) ∙ w
    where
      and-true : (a : Bool) → (a && true) ≡ a
      and-true true = refl
      and-true false = refl
