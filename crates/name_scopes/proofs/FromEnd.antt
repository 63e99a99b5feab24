-- Loops from the end of a list, and elements of a list that is read by number.
use Rattle.std.proofs.Common.{◌≡◌, ◌<◌, ◌≤◌, ℕ, List, length, drop, get_or, sym, ap, ◌∙◌, arith}
use Rattle.std.specs.List.{Contains}

-- what was made of the elements from the i-th on
pub record Reaches {A S : Type 0} (whole : List A → S) (xs : List A) (i : ℕ) (now : S) : Type 0 where
  pub most : i ≤ length xs
  pub is : now ≡ whole (drop i xs)

pub reaches-last : {A S : Type 0} (whole : List A → S) (xs : List A) (i : ℕ) (now : S) → Reaches whole xs i now → i ≤ 0 → now ≡ whole xs
reaches-last whole xs i now h le = let none : i ≡ 0 = omega (arith, le) in h.is ∙ ap (λ k. whole (drop k xs)) none

pub has-read : {A : Type 0} (xs : List A) (i : ℕ) (x : A) → i < length xs → x ≡ get_or xs i x → Contains xs x
has-read xs i x lt e = (i, lt, sym e)
