-- Worked examples of the arithmetic, at its edges.
use Rattle.std.proofs.Common.{◌≡◌, true, false, ◌-◌, ◌^◌, codes, refl}
use Rattle.std.specs.Prelude.{pos, negsuc}
use Rattle.std.specs.Fmt.{digits}
use Rattle.word_arithmetic.specs.Arithmetic.{is_opposed, floor_div, floor_mod, word_for, shift_left, shift_right, shift_signed, signed_text}

-- Division is rounded down, for both signs of both numbers; a remainder has the divisor's sign.

quotients : (floor_div (pos 7) (pos 2) ≡ pos 3) × (floor_div (negsuc 6) (pos 2) ≡ negsuc 3) × (floor_div (pos 7) (negsuc 1) ≡ negsuc 3) × (floor_div (negsuc 6) (negsuc 1) ≡ pos 3)
quotients = (refl, refl, refl, refl)

remainders : (floor_mod (pos 7) (pos 2) ≡ pos 1) × (floor_mod (negsuc 6) (pos 2) ≡ pos 1) × (floor_mod (pos 7) (negsuc 1) ≡ negsuc 0) × (floor_mod (negsuc 6) (negsuc 1) ≡ negsuc 0)
remainders = (refl, refl, refl, refl)

without_rest : (floor_div (negsuc 5) (pos 3) ≡ negsuc 1) × (floor_mod (negsuc 5) (pos 3) ≡ pos 0) × (floor_div (pos 6) (negsuc 2) ≡ negsuc 1) × (floor_mod (pos 6) (negsuc 2) ≡ pos 0)
without_rest = (refl, refl, refl, refl)

less_than_the_divisor : (floor_div (negsuc 0) (pos 2) ≡ negsuc 0) × (floor_mod (negsuc 0) (pos 2) ≡ pos 1) × (floor_div (pos 1) (negsuc 1) ≡ negsuc 0) × (floor_mod (pos 1) (negsuc 1) ≡ negsuc 0)
less_than_the_divisor = (refl, refl, refl, refl)

-- the least number by -1: its quotient is the one that has no 32 bits
least_by_minus_one : (floor_div (negsuc (2 ^ 31 - 1)) (negsuc 0) ≡ pos (2 ^ 31)) × (floor_mod (negsuc (2 ^ 31 - 1)) (negsuc 0) ≡ pos 0)
least_by_minus_one = (refl, refl)

opposed : (is_opposed (pos 1) (negsuc 1) ≡ true) × (is_opposed (negsuc 0) (pos 2) ≡ true) × (is_opposed (pos 1) (pos 2) ≡ false) × (is_opposed (negsuc 0) (negsuc 1) ≡ false) × (is_opposed (pos 0) (pos 2) ≡ false) × (is_opposed (pos 0) (negsuc 1) ≡ false)
opposed = (refl, refl, refl, refl, refl, refl)

-- Words.

words : (word_for (2 ^ 32 - 1) ≡ 2 ^ 32 - 1) × (word_for (2 ^ 32) ≡ 0) × (word_for (2 ^ 33 - 1) ≡ 2 ^ 32 - 1)
words = (refl, refl, refl)

-- Shifts: by nothing, by the last bit, by all bits and by more.

left : (shift_left 3 0 ≡ 3) × (shift_left 3 31 ≡ 2 ^ 31) × (shift_left 3 32 ≡ 0) × (shift_left 3 (2 ^ 32 - 1) ≡ 0)
left = (refl, refl, refl, refl)

right : (shift_right (2 ^ 32 - 1) 0 ≡ 2 ^ 32 - 1) × (shift_right (2 ^ 32 - 1) 4 ≡ 2 ^ 28 - 1) × (shift_right (2 ^ 31) 31 ≡ 1) × (shift_right (2 ^ 31) 32 ≡ 0) × (shift_right (2 ^ 31) (2 ^ 32 - 1) ≡ 0)
right = (refl, refl, refl, refl, refl)

signed : (shift_signed (2 ^ 31) 0 ≡ 2 ^ 31) × (shift_signed (2 ^ 32 - 16) 2 ≡ 2 ^ 32 - 4) × (shift_signed (2 ^ 31) 31 ≡ 2 ^ 32 - 1) × (shift_signed (2 ^ 31) (2 ^ 32 - 1) ≡ 2 ^ 32 - 1) × (shift_signed (2 ^ 31 - 1) 30 ≡ 1) × (shift_signed (2 ^ 31 - 1) 31 ≡ 0) × (shift_signed (2 ^ 31 - 1) 32 ≡ 0)
signed = (refl, refl, refl, refl, refl, refl, refl)

-- Texts: of zero, of one digit and more, of the bounds.

texts : (signed_text (pos 0) ≡ codes "0") × (signed_text (pos 10) ≡ codes "10") × (signed_text (negsuc 0) ≡ codes "~1") × (signed_text (pos (2 ^ 31 - 1)) ≡ codes "2147483647") × (signed_text (negsuc (2 ^ 31 - 1)) ≡ codes "~2147483648")
unfolding digits
texts = (refl, refl, refl, refl, refl)
