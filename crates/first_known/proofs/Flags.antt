-- Loops that keep whether all so far holds.
use Rattle.std.proofs.Common.{◌≡◌, ◌↔◌, ℕ, zero, suc, ◌+◌, ◌<◌, ◌≤◌, Bool, true, false, ◌&&◌, List, [], ◌∷◌, ◌++◌, map, length, take, get_or, IsTrue, refl, sym, ap, ◌∙◌, subst, arith}
use Rattle.std.proofs.lemmas.Bool.{false≢true}
use Rattle.std.proofs.lemmas.List.{take_more}
use Rattle.std.specs.List.{AllByRecursion}

pub and-is : {P Q : Type 0} (a b : Bool) → IsTrue a ↔ P → IsTrue b ↔ Q → IsTrue (a && b) ↔ (P × Q)
and-is true b h k = (λ t. (h.0 refl, k.0 t), λ w. k.1 w.1)
and-is false b h k = (λ t. absurd (false≢true t), λ w. h.1 w.0)

pub both-is : {P Q : Type 0} (c a b : Bool) → c ≡ (a && b) → IsTrue a ↔ P → IsTrue b ↔ Q → IsTrue c ↔ (P × Q)
both-is {P = P} {Q = Q} c a b e h k = subst (λ x. IsTrue x ↔ (P × Q)) (sym e) (and-is a b h k)

-- one that is there in the other way
pub iff-along : {P Q : Type 0} (b : Bool) → P ↔ Q → IsTrue b ↔ P → IsTrue b ↔ Q
iff-along b e h = (λ t. e.0 (h.0 t), λ q. h.1 (e.1 q))

module _ {A : Type 0} (P : A → Type 0) where
  pub all-last : (xs : List A) (x : A) → AllByRecursion P (xs ++ x ∷ []) ↔ (AllByRecursion P xs × P x)
  all-last [] x = (λ w. (w.1, w.0), λ w. (w.1, w.0))
  all-last (y ∷ xs) x = let r = all-last xs x in (λ w. let s = r.0 w.1 in ((w.0, s.0), s.1), λ w. (w.0.0, r.1 (w.0.1, w.1)))

  -- one more, where d is what is read past the end
  pub all-more : (xs : List A) (i : ℕ) (x d : A) (all here c : Bool) → i < length xs → x ≡ get_or xs i d → IsTrue all ↔ AllByRecursion P (take i xs) → IsTrue here ↔ P x → c ≡ (all && here)
      → IsTrue c ↔ AllByRecursion P (take (i + 1) xs)
  all-more xs i x d all here c lt is h k e =
      subst (λ l. IsTrue c ↔ AllByRecursion P l) (sym (take_more xs i d lt ∙ ap (λ y. take i xs ++ y ∷ []) (sym is)))
      (iff-along c (let r = all-last (take i xs) x in (r.1, r.0)) (both-is c all here e h k))

module _ {A B : Type 0} (P : B → Type 0) (f : A → B) where
  pub all-mapped : (xs : List A) → AllByRecursion (λ a. P (f a)) xs ↔ AllByRecursion P (map f xs)
  all-mapped [] = (λ w. w, λ w. w)
  all-mapped (x ∷ xs) = let r = all-mapped xs in (λ w. (w.0, r.0 w.1), λ w. (w.0, r.1 w.1))

all-taken : {A : Type 0} (xs : List A) (i : ℕ) → length xs ≤ i → take i xs ≡ xs
all-taken [] zero le = refl
all-taken [] (suc i) le = refl
all-taken (x ∷ xs) zero le = absurd (omega (arith, le))
all-taken (x ∷ xs) (suc i) le = ap (λ l. x ∷ l) (all-taken xs i (omega (arith, le)))

module _ {A B : Type 0} (P : B → Type 0) (f : A → B) where
  -- the loop ends
  pub all-ends : (xs : List A) (i : ℕ) (all : Bool) → length xs ≤ i → IsTrue all ↔ AllByRecursion (λ a. P (f a)) (take i xs) → IsTrue all ↔ AllByRecursion P (map f xs)
  all-ends xs i all le h = iff-along all (all-mapped P f xs) (subst (λ l. IsTrue all ↔ AllByRecursion (λ a. P (f a)) l) (all-taken xs i le) h)
