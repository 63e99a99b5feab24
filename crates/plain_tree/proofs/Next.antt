-- Sums and joined lists with one element more.
use Rattle.std.proofs.Common.{◌≡◌, ℕ, zero, suc, ◌+◌, ◌<◌, List, [], ◌∷◌, ◌++◌, map, take, length, slice_index_or, refl, sym, ap, ◌∙◌, arith}
use Rattle.std.proofs.lemmas.List.{append-nil}
use Rattle.plain_tree.specs.Sums.{joined}

module _ {A : Type 0} where
  pub next-joined : (f : A → List ℕ) (xs : List A) (i : ℕ) (x : A) → i < length xs → x ≡ slice_index_or xs i x → joined (map f (take (suc i) xs)) ≡ joined (map f (take i xs)) ++ f x
  next-joined f [] i x lt e = absurd (omega arith)
  next-joined f (y ∷ xs) zero x lt e = append-nil (f y) ∙ ap f (sym e)
  next-joined f (y ∷ xs) (suc i) x lt e = ap (λ l. f y ++ l) (next-joined f xs i x (omega arith) e) ∙ sym (assoc (f y) (joined (map f (take i xs))) (f x))
    where
      assoc : (a b c : List ℕ) → (a ++ b) ++ c ≡ a ++ (b ++ c)
      assoc [] b c = refl
      assoc (n ∷ a) b c = ap (λ l. n ∷ l) (assoc a b c)

  pub grown : (f : A → List ℕ) (xs : List A) (i : ℕ) (x : A) (old now new : List ℕ) → i < length xs → x ≡ slice_index_or xs i x → now ≡ old ++ joined (map f (take i xs)) → new ≡ now ++ f x
      → new ≡ old ++ joined (map f (take (i + 1) xs))
  grown f xs i x old now new lt e h k =
      k ∙ ap (λ l. l ++ f x) h ∙ assoc old (joined (map f (take i xs))) (f x) ∙ ap (λ l. old ++ l) (sym (next-joined f xs i x lt e)) ∙ ap (λ n. old ++ joined (map f (take n xs))) more
    where
      assoc : (a b c : List ℕ) → (a ++ b) ++ c ≡ a ++ (b ++ c)
      assoc [] b c = refl
      assoc (n ∷ a) b c = ap (λ l. n ∷ l) (assoc a b c)

      more : suc i ≡ i + 1
      more = omega arith
