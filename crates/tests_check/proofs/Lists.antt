-- Lists of which each element is so, along a loop.
use Rattle.std.proofs.Common.{◌≡◌, ℕ, zero, suc, ◌+◌, ◌<◌, List, [], ◌∷◌, map, take, drop, length, slice_index_or, refl, sym, ap, ◌∙◌, subst, arith}
use Rattle.std.proofs.Math.Seq.{take-length}
use Rattle.tests_check.specs.Walk.{Each}

module _ {A : Type 0} where
  taken-more : (P : A → Type 0) (xs : List A) (i : ℕ) (x : A) → i < length xs → x ≡ slice_index_or xs i x → Each P (take i xs) → P x → Each P (take (suc i) xs)
  taken-more P [] i x lt e ps p = absurd (omega arith)
  taken-more P (y ∷ xs) zero x lt e ps p = (subst P e p, tt)
  taken-more P (y ∷ xs) (suc i) x lt e ps p = (ps.0, taken-more P xs i x (omega arith) e ps.1 p)

  pub each-more : (P : A → Type 0) (xs : List A) (i : ℕ) (x : A) → i < length xs → x ≡ slice_index_or xs i x → Each P (take i xs) → P x → Each P (take (i + 1) xs)
  each-more P xs i x lt e ps p = let more : suc i ≡ i + 1 = omega arith in subst (λ n. Each P (take n xs)) more (taken-more P xs i x lt e ps p)

  pub each-at : (P : A → Type 0) (xs : List A) (i : ℕ) (x : A) → i < length xs → x ≡ slice_index_or xs i x → Each P xs → P x
  each-at P [] i x lt e ps = absurd (omega arith)
  each-at P (y ∷ xs) zero x lt e ps = subst P (sym e) ps.0
  each-at P (y ∷ xs) (suc i) x lt e ps = each-at P xs i x (omega arith) e ps.1

pub any-default : {A : Type 0} (xs : List A) (n : ℕ) (d e : A) → n < length xs → slice_index_or xs n d ≡ slice_index_or xs n e
any-default [] n d e lt = absurd (omega arith)
any-default (x ∷ xs) zero d e lt = refl
any-default (x ∷ xs) (suc n) d e lt = any-default xs n d e (omega arith)

pub all-taken : {A : Type 0} (xs : List A) (n : ℕ) → n ≡ length xs → take n xs ≡ xs
all-taken xs n e = ap (λ n. take n xs) e ∙ take-length xs
