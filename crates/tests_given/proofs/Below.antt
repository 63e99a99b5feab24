-- Numbers below another, from the last one on.
use Rattle.std.proofs.Common.{◌≡◌, ℕ, zero, suc, ◌+◌, ◌<◌, ◌≤◌, List, [], ◌∷◌, length, drop, slice_index_or, sym, subst, arith}
use Rattle.std.proofs.lemmas.List.{drop_all}
use Rattle.ty_table.specs.TypeAt.{AllBelow}

module _ (n : ℕ) where
  -- what is below from here on, below from one further on
  pub one-more : (xs : List ℕ) (i d : ℕ) → i < length xs → slice_index_or xs i d < n → AllBelow n (drop (i + 1) xs) → AllBelow n (drop i xs)
  one-more xs i d lt l h = go xs i lt l (subst (λ k. AllBelow n (drop k xs)) one h)
    where
      one : i + 1 ≡ suc i
      one = omega arith

      go : (xs : List ℕ) (i : ℕ) → i < length xs → slice_index_or xs i d < n → AllBelow n (drop (suc i) xs) → AllBelow n (drop i xs)
      go [] i lt l h = absurd (omega arith)
      go (x ∷ xs) zero lt l h = (l, h)
      go (x ∷ xs) (suc i) lt l h = go xs i (omega arith) l h

  pub none-left : (xs : List ℕ) (i : ℕ) → length xs ≤ i → AllBelow n (drop i xs)
  none-left xs i le = subst (AllBelow n) (sym (drop_all i xs le)) tt
