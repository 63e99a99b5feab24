-- What holds of each, one after the other.
use Rattle.std.proofs.Common.{◌≡◌, ◌↔◌, ℕ, zero, suc, ◌+◌, ◌<◌, ◌≤◌, Bool, true, false, List, [], ◌∷◌, ◌++◌, take, length, reverse, slice_get, get_or, Some, IsTrue, refl, sym, ap, subst, ◌∙◌, arith}
use Rattle.std.proofs.lemmas.Bool.{false≢true}
use Rattle.std.proofs.lemmas.List.{reverse-append, length-reverse}
use Rattle.std.specs.List.{AllByRecursion}

module _ {A : Type 0} (P : A → Type 0) where
  all-last : (xs : List A) (x : A) → AllByRecursion P (xs ++ x ∷ []) ↔ (AllByRecursion P xs × P x)
  all-last [] x = (λ w. (w.1, w.0), λ w. (w.1, w.0))
  all-last (y ∷ xs) x = let r = all-last xs x in (λ w. let s = r.0 w.1 in ((w.0, s.0), s.1), λ w. (w.0.0, r.1 (w.0.1, w.1)))

  all-turned : (xs : List A) → AllByRecursion P xs ↔ AllByRecursion P (reverse xs)
  all-turned [] = ((λ w. w), (λ w. w))
  all-turned (x ∷ xs) =
      let r = all-turned xs in
      let l = all-last (reverse xs) x in
      let e = reverse-append (x ∷ []) xs in
      ((λ w. subst (AllByRecursion P) (sym e) (l.1 (r.0 w.1, w.0))), (λ w. let s = l.0 (subst (AllByRecursion P) e w) in (s.1, r.1 s.0)))

  -- what is decided of the i-th
  abbrev pub Decides : List A → ℕ → Bool → Type 0
  Decides xs i b = (x : A) → slice_get xs i ≡ Some x → IsTrue b ↔ P x

  pub next : (xs : List A) (i : ℕ) (b : Bool) → i < length xs → Decides xs i b → b ≡ true → AllByRecursion P (take i xs) → AllByRecursion P (take (i + 1) xs)
  next [] i b lt h e w = absurd (omega (arith, lt))
  next (x ∷ xs) zero b lt h e w = ((h x refl).0 e, tt)
  next (x ∷ xs) (suc i) b lt h e w =
      subst (λ m. AllByRecursion P (take m (x ∷ xs))) (let k : suc (i + 1) ≡ suc i + 1 = omega arith in k) (w.0, next xs i b (omega (arith, lt)) h e w.1)

  fails : (xs : List A) (i : ℕ) (b : Bool) → i < length xs → Decides xs i b → b ≡ false → AllByRecursion P xs → ⊥
  fails [] i b lt h e w = absurd (omega (arith, lt))
  fails (x ∷ xs) zero b lt h e w = false≢true (sym e ∙ (h x refl).1 w.0)
  fails (x ∷ xs) (suc i) b lt h e w = fails xs i b (omega (arith, lt)) h e w.1

  pub stops : (xs : List A) (i : ℕ) (b : Bool) → i < length xs → Decides xs i b → b ≡ false → IsTrue false ↔ AllByRecursion P xs
  stops xs i b lt h e = ((λ t. absurd (false≢true t)), (λ w. absurd (fails xs i b lt h e w)))

  taken-all : (xs : List A) (i : ℕ) → length xs ≤ i → take i xs ≡ xs
  taken-all [] zero le = refl
  taken-all [] (suc i) le = refl
  taken-all (x ∷ xs) zero le = absurd (omega (arith, le))
  taken-all (x ∷ xs) (suc i) le = ap (λ l. x ∷ l) (taken-all xs i (omega (arith, le)))

  pub ends : (xs : List A) (i : ℕ) → length xs ≤ i → AllByRecursion P (take i xs) → IsTrue true ↔ AllByRecursion P xs
  ends xs i le w = ((λ t. subst (AllByRecursion P) (taken-all xs i le) w), (λ u. refl))

  -- gone along from the end

  turned-length : (xs : List A) (i : ℕ) → i < length xs → i < length (reverse xs)
  turned-length xs i lt = let l = length-reverse xs in omega (arith, lt, l)

  pub next-turned : (xs : List A) (i : ℕ) (b : Bool) → i < length xs → Decides (reverse xs) i b → b ≡ true → AllByRecursion P (take i (reverse xs)) → AllByRecursion P (take (i + 1) (reverse xs))
  next-turned xs i b lt h e w = next (reverse xs) i b (turned-length xs i lt) h e w

  pub stops-turned : (xs : List A) (i : ℕ) (b : Bool) → i < length xs → Decides (reverse xs) i b → b ≡ false → IsTrue false ↔ AllByRecursion P xs
  stops-turned xs i b lt h e = ((λ t. absurd (false≢true t)), (λ w. absurd (fails (reverse xs) i b (turned-length xs i lt) h e ((all-turned xs).0 w))))

  pub ends-turned : (xs : List A) (i : ℕ) → length xs ≤ i → AllByRecursion P (take i (reverse xs)) → IsTrue true ↔ AllByRecursion P xs
  ends-turned xs i le w = let l = length-reverse xs in let r = ends (reverse xs) i (omega (arith, le, l)) w in ((λ t. (all-turned xs).1 (r.0 t)), (λ u. refl))

-- the number that a loop reads
pub read-number : (n : ℕ) (xs : List ℕ) (i d : ℕ) (b : Bool) → IsTrue b ↔ (get_or xs i d < n) → i < length xs → Decides (λ p. p < n) xs i b
read-number n [] i d b w lt x e = absurd (omega (arith, lt))
read-number n (y ∷ xs) zero d b w lt x e = let s : y ≡ x = cc in subst (λ v. IsTrue b ↔ (v < n)) s w
read-number n (y ∷ xs) (suc i) d b w lt x e = read-number n xs i d b w (omega (arith, lt)) x e
