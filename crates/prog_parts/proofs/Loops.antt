-- Loops that ask each element, with the answer so far.
use Rattle.std.proofs.Common.{◌≡◌, ℕ, ◌+◌, ◌<◌, ◌≤◌, Bool, true, ◌&&◌, List, length, drop, get_or, refl, ap, ◌∙◌, subst}
use Rattle.prog_known.specs.Lists.{hold, all_hold}
use Rattle.prog_known.proofs.ListLemmas.{drop-next-is, hold-next, hold-ends, all-next, all-ends}

module _ {A : Type 0} (is_right : A → Bool) (xs : List A) where
  -- the first i are asked
  pub record Asking (i : ℕ) (so_far : Bool) : Type 0 where
    pub is : (so_far && all_hold is_right (drop i xs)) ≡ all_hold is_right xs

  pub asking-starts : Asking 0 true
  asking-starts = record { is = refl }

  pub asking-more : (i : ℕ) (x : A) (so_far one now : Bool) → i < length xs → x ≡ get_or xs i x → one ≡ is_right x → now ≡ (so_far && one) → Asking i so_far → Asking (i + 1) now
  asking-more i x so_far one now lt e o n a = record {
    is = ap (λ b. b && all_hold is_right (drop (i + 1) xs)) n ∙ all-next is_right xs i x so_far one (all_hold is_right xs) (drop-next-is xs i x lt e) o a.is;
  }

  pub asking-ends : (i : ℕ) (so_far : Bool) → length xs ≤ i → Asking i so_far → so_far ≡ all_hold is_right xs
  asking-ends i so_far le a = all-ends is_right xs i so_far (all_hold is_right xs) le a.is

module _ {A S : Type 0} (is_right : S → A → List A → Bool) (next : S → A → S) (start : S) (xs : List A) where
  -- the first i are asked, and s is carried on
  pub record Carrying (i : ℕ) (s : S) (so_far : Bool) : Type 0 where
    pub is : (so_far && hold is_right next s (drop i xs)) ≡ hold is_right next start xs

  pub carrying-starts : Carrying 0 start true
  carrying-starts = record { is = refl }

  pub carrying-more : (i : ℕ) (x : A) (s after : S) (so_far one now : Bool) → i < length xs → x ≡ get_or xs i x → one ≡ is_right s x (drop (i + 1) xs) → now ≡ (so_far && one) → next s x ≡ after
      → Carrying i s so_far → Carrying (i + 1) after now
  carrying-more i x s after so_far one now lt e o n k c = record {
    is = ap (λ b. b && hold is_right next after (drop (i + 1) xs)) n
        ∙ subst (λ u. ((so_far && one) && hold is_right next u (drop (i + 1) xs)) ≡ hold is_right next start xs) k
        (hold-next is_right next xs i x s so_far one (hold is_right next start xs) (drop-next-is xs i x lt e) o c.is);
  }

  pub carrying-ends : (i : ℕ) (s : S) (so_far : Bool) → length xs ≤ i → Carrying i s so_far → so_far ≡ hold is_right next start xs
  carrying-ends i s so_far le c = hold-ends is_right next xs i s so_far (hold is_right next start xs) le c.is
