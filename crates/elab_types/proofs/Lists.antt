-- One element more along a list.
use Rattle.std.proofs.Common.{◌≡◌, ℕ, zero, suc, ◌+◌, ◌<◌, ◌≤◌, List, [], ◌∷◌, ◌++◌, map, length, take, drop, get_or, refl, sym, ap, ◌∙◌, arith}

module _ {A B : Type 0} (g : A → B) where
  pub all-map : (xs : List A) (n : ℕ) → length xs ≤ n → map g (take n xs) ≡ map g xs
  all-map [] zero le = refl
  all-map [] (suc n) le = refl
  all-map (x ∷ xs) zero le = absurd (omega (arith, le))
  all-map (x ∷ xs) (suc n) le = ap (λ r. g x ∷ r) (all-map xs n (omega (arith, le)))

  pub next-map-at : (xs : List A) (i : ℕ) (d : A) → i < length xs → map g (take (i + 1) xs) ≡ map g (take i xs) ++ g (get_or xs i d) ∷ []
  next-map-at xs i d lt = let s : i + 1 ≡ suc i = omega arith in ap (λ n. map g (take n xs)) s ∙ go xs i lt
    where
      go : (xs : List A) (i : ℕ) → i < length xs → map g (take (suc i) xs) ≡ map g (take i xs) ++ g (get_or xs i d) ∷ []
      go [] i lt = absurd (omega (arith, lt))
      go (y ∷ xs) zero lt = refl
      go (y ∷ xs) (suc i) lt = ap (λ r. g y ∷ r) (go xs i (omega (arith, lt)))

module _ {A : Type 0} where
  pub drop-next : (xs : List A) (i : ℕ) (x : A) → i < length xs → x ≡ get_or xs i x → drop i xs ≡ x ∷ drop (i + 1) xs
  drop-next xs i x lt e = let s : suc i ≡ i + 1 = omega arith in go xs i lt ∙ ap (λ n. get_or xs i x ∷ drop n xs) s ∙ ap (λ y. y ∷ drop (i + 1) xs) (sym e)
    where
      go : (xs : List A) (i : ℕ) → i < length xs → drop i xs ≡ get_or xs i x ∷ drop (suc i) xs
      go [] i lt = absurd (omega (arith, lt))
      go (x ∷ xs) zero lt = refl
      go (x ∷ xs) (suc i) lt = go xs i (omega (arith, lt))
