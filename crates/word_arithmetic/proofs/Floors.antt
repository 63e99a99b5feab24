-- Division rounded down: where the remainder towards zero has another sign than the divisor, it gets one divisor more, and the quotient is one less.
use Rattle.std.proofs.Common.{◌≡◌, ◌≢◌, ◌<◌, ℕ, suc, Bool, true, false, refl, sym, ap, ◌∙◌, ℤ, pos, negsuc, ◌+ℤ◌, ◌-ℤ◌, ◌*ℤ◌, ◌<ℤ◌, ◌≤ℤ◌, unsigned_abs, if◌then◌else◌, int_div, int_rem, int_lt, subst, zero, arith}
use Rattle.std.proofs.Math.IntN.{+ℤ_comm, pred_ℤ-*ℤ, -ℤ_one, +ℤ_assoc, -ℤ-+ℤ_cancel}
use Rattle.std.proofs.lemmas.Int.{ints, quot-rem, rem_below}
use Rattle.word_arithmetic.specs.Arithmetic.{is_opposed, floor_div, floor_mod}
use Rattle.word_arithmetic.specs.Laws.{IsFloored, DivisionIsFloored}

carried : (q r d : ℤ) (b : Bool) → (if b then q -ℤ pos 1 else q) *ℤ d +ℤ (if b then r +ℤ d else r) ≡ q *ℤ d +ℤ r
carried q r d false = refl
carried q r d true =
    ap (λ x. x *ℤ d +ℤ (r +ℤ d)) (-ℤ_one q) ∙ ap (λ x. x +ℤ (r +ℤ d)) (pred_ℤ-*ℤ q d) ∙ ap (λ x. q *ℤ d -ℤ d +ℤ x) (+ℤ_comm r d)
    ∙ sym (+ℤ_assoc (q *ℤ d -ℤ d) d r) ∙ ap (λ x. x +ℤ r) (-ℤ-+ℤ_cancel (q *ℤ d) d)

abbrev remains : Bool → ℤ → ℤ → ℤ
remains b r d = if b then r +ℤ d else r

not-less : (n : ℕ) → int_lt (pos n) (pos 0) ≡ false
not-less n = grind (arith, ints)

is-less : (n : ℕ) → int_lt (pos 0) (pos (suc n)) ≡ true
is-less n = grind (arith, ints)

opposed-above : (r : ℤ) (n : ℕ) → is_opposed r (pos n) ≡ int_lt r (pos 0)
opposed-above r n = ap (λ b. if b then int_lt (pos 0) r else int_lt r (pos 0)) (not-less n)

above : (r : ℤ) (n : ℕ) → unsigned_abs r < n → (pos 0 ≤ℤ remains (int_lt r (pos 0)) r (pos n)) × (remains (int_lt r (pos 0)) r (pos n) <ℤ pos n)
above (pos m) n h = subst (λ b. (pos 0 ≤ℤ remains b (pos m) (pos n)) × (remains b (pos m) (pos n) <ℤ pos n)) (sym (not-less m)) (omega (arith, ints), omega (arith, ints))
above (negsuc m) n h = (omega (arith, ints), omega (arith, ints))

below : (r : ℤ) (n : ℕ) → unsigned_abs r < suc n → (negsuc n <ℤ remains (int_lt (pos 0) r) r (negsuc n)) × (remains (int_lt (pos 0) r) r (negsuc n) ≤ℤ pos 0)
below (pos zero) n h = (omega (arith, ints), omega (arith, ints))
below (pos (suc m)) n h = subst (λ b. (negsuc n <ℤ remains b (pos (suc m)) (negsuc n)) × (remains b (pos (suc m)) (negsuc n) ≤ℤ pos 0)) (sym (is-less m)) (omega (arith, ints), omega (arith, ints))
below (negsuc m) n h = (omega (arith, ints), omega (arith, ints))

floored : (a d : ℤ) → d ≢ pos 0 → unsigned_abs (int_rem a d) < unsigned_abs d → IsFloored a d (floor_div a d) (floor_mod a d)
floored a (pos n) some less = record {
  whole = carried (int_div a (pos n)) (int_rem a (pos n)) (pos n) (is_opposed (int_rem a (pos n)) (pos n)) ∙ quot-rem a (pos n);
  above = λ _. subst (λ b. (pos 0 ≤ℤ remains b (int_rem a (pos n)) (pos n)) × (remains b (int_rem a (pos n)) (pos n) <ℤ pos n)) (sym (opposed-above (int_rem a (pos n)) n)) (above (int_rem a (pos n)) n less);
  below = λ h. absurd (omega (arith, ints));
}
floored a (negsuc n) some less = record {
  whole = carried (int_div a (negsuc n)) (int_rem a (negsuc n)) (negsuc n) (is_opposed (int_rem a (negsuc n)) (negsuc n)) ∙ quot-rem a (negsuc n);
  above = λ h. absurd (omega (arith, ints));
  below = λ _. below (int_rem a (negsuc n)) n less;
}

not-zero : (d : ℤ) → d ≢ pos 0 → 0 < unsigned_abs d
not-zero (pos zero) some = absurd (some refl)
not-zero (pos (suc n)) some = omega arith
not-zero (negsuc n) some = omega arith

pub division-is-floored : DivisionIsFloored
division-is-floored a d some = floored a d some (rem_below a d (not-zero d some))
