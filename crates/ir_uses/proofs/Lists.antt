-- Lists that are gone through side by side.
use Rattle.std.proofs.Common.{◌≡◌, ℕ, zero, suc, ◌+◌, ◌<◌, Bool, true, List, [], ◌∷◌, length, take, map, slice_index_or, refl, sym, ap, ◌∙◌, subst, arith}
use Rattle.std.proofs.lemmas.Bool.{and_parts, and_from}
use Rattle.std.proofs.Math.Seq.{take-length}
use Rattle.ty_core.specs.Types.{Typ, typs_of}
use Rattle.ty_core.specs.Marks.{Allows}
use Rattle.ty_core.specs.declared.scheme.Quantified.{Quantified}
use Rattle.ty_table.specs.TypeAt.{type_at}
use Rattle.ir_known.specs.of_ir_poly.Types.{over, all_over, AreAllowed}

one-more : (i : ℕ) → suc i ≡ i + 1
one-more i = omega arith

module _ {A B C : Type 0} (f : A → C) (g : B → C) where
  head-is : {x y : C} {xs ys : List C} → x ∷ xs ≡ y ∷ ys → x ≡ y
  head-is e = cc

  tail-is : {x y : C} {xs ys : List C} → x ∷ xs ≡ y ∷ ys → xs ≡ ys
  tail-is e = cc

  more : (xs : List A) (ys : List B) (i : ℕ) (a : A) (b : B) → i < length xs → i < length ys → map f (take i xs) ≡ map g (take i ys) → f (slice_index_or xs i a) ≡ g (slice_index_or ys i b)
      → map f (take (suc i) xs) ≡ map g (take (suc i) ys)
  more [] ys i a b lt lu e s = absurd (omega arith)
  more (x ∷ xs) [] i a b lt lu e s = absurd (omega arith)
  more (x ∷ xs) (y ∷ ys) zero a b lt lu e s = ap (λ z. z ∷ []) s
  more (x ∷ xs) (y ∷ ys) (suc i) a b lt lu e s = ap (λ z. z ∷ map f (take (suc i) xs)) (head-is e) ∙ ap (λ zs. g y ∷ zs) (more xs ys i a b (omega arith) (omega arith) (tail-is e) s)

  pub agree-more : (xs : List A) (ys : List B) (i : ℕ) (a : A) (b : B) → i < length xs → i < length ys → map f (take i xs) ≡ map g (take i ys) → f (slice_index_or xs i a) ≡ g (slice_index_or ys i b)
      → map f (take (i + 1) xs) ≡ map g (take (i + 1) ys)
  agree-more xs ys i a b lt lu e s = subst (λ n. map f (take n xs) ≡ map g (take n ys)) (one-more i) (more xs ys i a b lt lu e s)

  pub agree-not : (xs : List A) (ys : List B) (i : ℕ) (a : A) (b : B) → i < length xs → i < length ys → (f (slice_index_or xs i a) ≡ g (slice_index_or ys i b) → ⊥) → map f xs ≡ map g ys → ⊥
  agree-not [] ys i a b lt lu n e = absurd (omega arith)
  agree-not (x ∷ xs) [] i a b lt lu n e = absurd (omega arith)
  agree-not (x ∷ xs) (y ∷ ys) zero a b lt lu n e = n (head-is e)
  agree-not (x ∷ xs) (y ∷ ys) (suc i) a b lt lu n e = agree-not xs ys i a b (omega arith) (omega arith) n (tail-is e)

  pub agree-all : (xs : List A) (ys : List B) → length xs ≡ length ys → map f (take (length xs) xs) ≡ map g (take (length xs) ys) → map f xs ≡ map g ys
  agree-all xs ys l e = ap (map f) (sym (take-length xs)) ∙ e ∙ ap (λ n. map g (take n ys)) l ∙ ap (map g) (take-length ys)

  pub agree-long : (xs : List A) (ys : List B) → map f xs ≡ map g ys → length xs ≡ length ys
  agree-long [] [] e = refl
  agree-long [] (y ∷ ys) e = absurd (cc)
  agree-long (x ∷ xs) [] e = absurd (cc)
  agree-long (x ∷ xs) (y ∷ ys) e = ap (λ n. suc n) (agree-long xs ys (tail-is e))

pub map-itself : {A : Type 0} (xs : List A) → map (λ x. x) xs ≡ xs
map-itself [] = refl
map-itself (x ∷ xs) = ap (λ ys. x ∷ ys) (map-itself xs)

-- Types over parameters in scope

module _ (types : List Typ) (D : List Quantified) where
  pub over-more : (ts : List ℕ) (i d : ℕ) → i < length ts → all_over D (typs_of (map (type_at types) (take i ts))) ≡ true → over D (type_at types (slice_index_or ts i d)) ≡ true
      → all_over D (typs_of (map (type_at types) (take (i + 1) ts))) ≡ true
  over-more ts i d lt e o = subst (λ n. all_over D (typs_of (map (type_at types) (take n ts))) ≡ true) (one-more i) (go ts i lt e o)
    where
      go : (ts : List ℕ) (i : ℕ) → i < length ts → all_over D (typs_of (map (type_at types) (take i ts))) ≡ true → over D (type_at types (slice_index_or ts i d)) ≡ true
          → all_over D (typs_of (map (type_at types) (take (suc i) ts))) ≡ true
      go [] i lt e o = absurd (omega arith)
      go (t ∷ ts) zero lt e o = and_from _ _ o refl
      go (t ∷ ts) (suc i) lt e o = let a = and_parts (over D (type_at types t)) _ e in and_from _ _ a.0 (go ts i (omega arith) a.1 o)

  pub over-not : (ts : List ℕ) (i d : ℕ) → i < length ts → (over D (type_at types (slice_index_or ts i d)) ≡ true → ⊥) → all_over D (typs_of (map (type_at types) ts)) ≡ true → ⊥
  over-not [] i d lt n e = absurd (omega arith)
  over-not (t ∷ ts) zero d lt n e = n (and_parts (over D (type_at types t)) _ e).0
  over-not (t ∷ ts) (suc i) d lt n e = over-not ts i d (omega arith) n (and_parts (over D (type_at types t)) _ e).1

  pub over-all : (ts : List ℕ) → all_over D (typs_of (map (type_at types) (take (length ts) ts))) ≡ true → all_over D (typs_of (map (type_at types) ts)) ≡ true
  over-all ts e = ap (λ us. all_over D (typs_of (map (type_at types) us))) (sym (take-length ts)) ∙ e

-- Types that marks allow

module _ (types : List Typ) (m : ℕ → Bool) where
  pub allowed-more : (qs : List Quantified) (ts : List ℕ) (i : ℕ) (p : Quantified) (d : ℕ) → i < length qs → i < length ts → AreAllowed m (take i qs) (map (type_at types) (take i ts))
      → Allows (slice_index_or qs i p).mark m (type_at types (slice_index_or ts i d)) → AreAllowed m (take (i + 1) qs) (map (type_at types) (take (i + 1) ts))
  allowed-more qs ts i p d lt lu e o = subst (λ n. AreAllowed m (take n qs) (map (type_at types) (take n ts))) (one-more i) (go qs ts i lt lu e o)
    where
      go : (qs : List Quantified) (ts : List ℕ) (i : ℕ) → i < length qs → i < length ts → AreAllowed m (take i qs) (map (type_at types) (take i ts))
          → Allows (slice_index_or qs i p).mark m (type_at types (slice_index_or ts i d)) → AreAllowed m (take (suc i) qs) (map (type_at types) (take (suc i) ts))
      go [] ts i lt lu e o = absurd (omega arith)
      go (q ∷ qs) [] i lt lu e o = absurd (omega arith)
      go (q ∷ qs) (t ∷ ts) zero lt lu e o = (o, tt)
      go (q ∷ qs) (t ∷ ts) (suc i) lt lu e o = (e.0, go qs ts i (omega arith) (omega arith) e.1 o)

  pub allowed-not : (qs : List Quantified) (ts : List ℕ) (i : ℕ) (p : Quantified) (d : ℕ) → i < length qs → i < length ts
      → (Allows (slice_index_or qs i p).mark m (type_at types (slice_index_or ts i d)) → ⊥) → AreAllowed m qs (map (type_at types) ts) → ⊥
  allowed-not [] ts i p d lt lu n e = absurd (omega arith)
  allowed-not (q ∷ qs) [] i p d lt lu n e = absurd (omega arith)
  allowed-not (q ∷ qs) (t ∷ ts) zero p d lt lu n e = n e.0
  allowed-not (q ∷ qs) (t ∷ ts) (suc i) p d lt lu n e = allowed-not qs ts i p d (omega arith) (omega arith) n e.1

  pub allowed-all : (qs : List Quantified) (ts : List ℕ) → length qs ≡ length ts → AreAllowed m (take (length qs) qs) (map (type_at types) (take (length qs) ts)) → AreAllowed m qs (map (type_at types) ts)
  allowed-all qs ts l e = subst (λ ps. AreAllowed m ps (map (type_at types) ts)) (take-length qs)
      (subst (λ us. AreAllowed m (take (length qs) qs) (map (type_at types) us)) (ap (λ n. take n ts) l ∙ take-length ts) e)

  pub allowed-long : (qs : List Quantified) (ts : List ℕ) → AreAllowed m qs (map (type_at types) ts) → length qs ≡ length ts
  allowed-long [] [] e = refl
  allowed-long [] (t ∷ ts) e = absurd e
  allowed-long (q ∷ qs) [] e = absurd e
  allowed-long (q ∷ qs) (t ∷ ts) e = ap (λ n. suc n) (allowed-long qs ts e.1)
