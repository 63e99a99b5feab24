-- Sums over the first elements of a list.
use Rattle.std.proofs.Common.{◌≡◌, ℕ, zero, suc, ◌+◌, ◌<◌, List, [], ◌∷◌, length, take, get_or, add-one, refl, sym, ap, ◌∙◌, arith}
use Rattle.std.proofs.lemmas.List.Sums.{sum_by_more}
use Rattle.std.specs.Prelude.{sum_by}

-- where d is what is read past the end
pub next-sum : {A : Type 0} (f : A → ℕ) (xs : List A) (i : ℕ) (d : A) → i < length xs → sum_by f (take (suc i) xs) ≡ sum_by f (take i xs) + f (get_or xs i d)
next-sum f xs i d lt = rw (← add-one) (sum_by_more f xs i d lt)

pub next-sum-is : {A : Type 0} (f : A → ℕ) (xs : List A) (i : ℕ) (x : A) → i < length xs → x ≡ get_or xs i x → sum_by f (take (suc i) xs) ≡ sum_by f (take i xs) + f x
next-sum-is f xs i x lt e = next-sum f xs i x lt ∙ ap (λ y. sum_by f (take i xs) + f y) (sym e)

-- within a list it is all one what is read past its end
pub same-read : {A : Type 0} (xs : List A) (i : ℕ) (d e : A) → i < length xs → get_or xs i d ≡ get_or xs i e
same-read [] i d e lt = absurd (omega (arith, lt))
same-read (x ∷ xs) zero d e lt = refl
same-read (x ∷ xs) (suc i) d e lt = same-read xs i d e (omega (arith, lt))
