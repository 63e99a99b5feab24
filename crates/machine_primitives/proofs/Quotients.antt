-- Quotients of integers: rounded down, and towards zero.
use Rattle.std.proofs.Common.{◌≡◌, ◌≢◌, ℕ, zero, suc, ◌+◌, ◌-◌, ◌*◌, ◌<◌, ◌≤◌, ◌^◌, refl, sym, ap, ◌∙◌, subst, ⊎_elim, arith}
use Rattle.std.specs.Prelude.{ℤ, pos, negsuc, ◌+ℤ◌, ◌*ℤ◌, ◌<ℤ◌, ◌≤ℤ◌, int_div, int_rem, unsigned_abs, FitsSigned}
use Rattle.std.specs.Int.{w32}
use Rattle.std.proofs.lemmas.Bool.{cases_lt}
use Rattle.std.proofs.lemmas.Nat.{mul-le}
use Rattle.std.proofs.lemmas.Int.{quot-rem, rem_below, unsigned_abs-mul, ints}
use Rattle.ir_code.specs.Words.{int_of}
use Rattle.mlc_prims.specs.PrimOf.{raised, int_result}
use Rattle.mlc_prims.specs.declared.prim.PrimExn.TheVariants.{Overflow}
use Rattle.word_arithmetic.specs.Arithmetic.{floor_div, floor_mod}
use Rattle.word_arithmetic.specs.Laws.{DivisionIsFloored}

-- a sum is no greater than both together
near : (p r a : ℤ) → p +ℤ r ≡ a → unsigned_abs p ≤ unsigned_abs a + unsigned_abs r
near (pos p) (pos r) (pos a) e = omega (arith, ints)
near (pos p) (pos r) (negsuc a) e = omega (arith, ints)
near (pos p) (negsuc r) (pos a) e = omega (arith, ints)
near (pos p) (negsuc r) (negsuc a) e = omega (arith, ints)
near (negsuc p) (pos r) (pos a) e = omega (arith, ints)
near (negsuc p) (pos r) (negsuc a) e = omega (arith, ints)
near (negsuc p) (negsuc r) (pos a) e = omega (arith, ints)
near (negsuc p) (negsuc r) (negsuc a) e = omega (arith, ints)

-- a quotient is no greater than the dividend, but for the sign
over : (a d q r : ℕ) → 0 < d → suc a ≤ q → q * d ≤ a + r → r < d → ⊥
over a d q r some lt le less =
    let more : suc a * d ≤ q * d = mul-le (suc a) d q d lt (omega arith) in
    let one : a * 1 ≤ a * d = mul-le a 1 a d (omega arith) some in
    let all : suc a * d ≡ a * d + d = omega arith in
    omega arith

pub quotient_below : (a d q r : ℤ) → 0 < unsigned_abs d → q *ℤ d +ℤ r ≡ a → unsigned_abs r < unsigned_abs d → unsigned_abs q ≤ unsigned_abs a
quotient_below a d q r some whole less =
    ⊎_elim
    (λ lt. absurd (over (unsigned_abs a) (unsigned_abs d) (unsigned_abs q) (unsigned_abs r) some lt (subst (λ n. n ≤ unsigned_abs a + unsigned_abs r) (unsigned_abs-mul q d) (near (q *ℤ d) r a whole)) less))
    (λ le. le)
    (cases_lt (unsigned_abs a) (unsigned_abs q))

-- it is no 2^31 but where the least integer is divided by -1
IsLeast : ℤ → ℤ → Type 0
IsLeast a d = (a ≡ negsuc (2 ^ 31 - 1)) × (d ≡ negsuc 0)

not_above : (d r : ℤ) → pos (2 ^ 31) *ℤ d +ℤ r ≡ negsuc (2 ^ 31 - 1) → unsigned_abs r < unsigned_abs d → d ≡ negsuc 0
not_above (pos k) (pos j) e less = absurd (omega (arith, ints))
not_above (pos k) (negsuc j) e less = absurd (omega (arith, ints))
not_above (negsuc k) (pos j) e less = let n : k ≡ 0 = omega (arith, ints) in ap negsuc n
not_above (negsuc k) (negsuc j) e less = absurd (omega (arith, ints))

pub quotient_fits : (a d q r : ℤ) → FitsSigned w32 a → 0 < unsigned_abs d → (a ≡ negsuc (2 ^ 31 - 1) → d ≡ negsuc 0 → ⊥) → q *ℤ d +ℤ r ≡ a → unsigned_abs r < unsigned_abs d → FitsSigned w32 q
quotient_fits (pos m) d (pos n) r fits some apart whole less = let le = quotient_below (pos m) d (pos n) r some whole less in let l = fits.sfits in record { sfits = omega arith }
quotient_fits (pos m) d (negsuc n) r fits some apart whole less = let le = quotient_below (pos m) d (negsuc n) r some whole less in let l = fits.sfits in record { sfits = omega arith }
quotient_fits (negsuc m) d (negsuc n) r fits some apart whole less = let le = quotient_below (negsuc m) d (negsuc n) r some whole less in let l = fits.sfits in record { sfits = omega arith }
quotient_fits (negsuc m) d (pos n) r fits some apart whole less =
    let le = quotient_below (negsuc m) d (pos n) r some whole less in
    let l = fits.sfits in
    ⊎_elim
    (λ lt. record { sfits = lt })
    (λ ge.
    let n_is : n ≡ 2 ^ 31 = omega arith in
    let m_is : m ≡ 2 ^ 31 - 1 = omega arith in
    absurd (apart (ap negsuc m_is) (not_above d r (ap (λ z. pos z *ℤ d +ℤ r) (sym n_is) ∙ whole ∙ ap negsuc m_is) less)))
    (cases_lt n (2 ^ 31))

-- Both quotients have a remainder below the divisor.

pub towards_zero_fits : (a d : ℤ) → FitsSigned w32 a → 0 < unsigned_abs d → (a ≡ negsuc (2 ^ 31 - 1) → d ≡ negsuc 0 → ⊥) → FitsSigned w32 (int_div a d)
towards_zero_fits a d fits some apart = quotient_fits a d (int_div a d) (int_rem a d) fits some apart (quot-rem a d) (rem_below a d some)

small : (d r : ℤ) → (pos 0 <ℤ d → (pos 0 ≤ℤ r) × (r <ℤ d)) → (d <ℤ pos 0 → (d <ℤ r) × (r ≤ℤ pos 0)) → 0 < unsigned_abs d → unsigned_abs r < unsigned_abs d
small (pos zero) r above below some = absurd (omega arith)
small (pos (suc n)) (pos m) above below some = let h = above (omega (arith, ints)) in let lt = h.1 in omega (arith, ints)
small (pos (suc n)) (negsuc m) above below some = let h = above (omega (arith, ints)) in let le = h.0 in absurd (omega (arith, ints))
small (negsuc n) (pos m) above below some = let h = below (omega (arith, ints)) in let le = h.1 in omega (arith, ints)
small (negsuc n) (negsuc m) above below some = let h = below (omega (arith, ints)) in let lt = h.0 in omega (arith, ints)

apart_zero : (d : ℤ) → 0 < unsigned_abs d → d ≢ pos 0
apart_zero d some e = let n : unsigned_abs d ≡ 0 = ap unsigned_abs e in omega arith

pub floored_small : DivisionIsFloored → (a d : ℤ) → 0 < unsigned_abs d → unsigned_abs (floor_mod a d) < unsigned_abs d
floored_small law a d some = let l = law a d (apart_zero d some) in small d (floor_mod a d) l.above l.below some

pub rounded_down_fits : DivisionIsFloored → (a d : ℤ) → FitsSigned w32 a → 0 < unsigned_abs d → (a ≡ negsuc (2 ^ 31 - 1) → d ≡ negsuc 0 → ⊥) → FitsSigned w32 (floor_div a d)
rounded_down_fits law a d fits some apart =
    let l = law a d (apart_zero d some) in quotient_fits a d (floor_div a d) (floor_mod a d) fits some apart l.whole (floored_small law a d some)

-- The least integer by -1 is Overflow.
pub least_down : int_result (floor_div (int_of (2 ^ 31)) (int_of (2 ^ 32 - 1))) ≡ raised Overflow
least_down = refl

pub least_towards_zero : int_result (int_div (int_of (2 ^ 31)) (int_of (2 ^ 32 - 1))) ≡ raised Overflow
least_towards_zero = refl
