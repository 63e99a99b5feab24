-- Arithmetic of integers and of words of 32 bits, for the primitives of the language and for the machine.
use Rattle.std.specs.Prelude.{ℕ, suc, ◌*◌, ◌/◌, ◌%◌, ◌^◌, min, Bool, List, ◌∷◌, ℤ, pos, negsuc, ◌+ℤ◌, ◌-ℤ◌, int_lt, int_div, int_rem, nat_lt, if◌then◌else◌}
use Rattle.std.specs.Int.{cast_signed, cast_unsigned, w32, int_shr}
use Rattle.std.specs.Fmt.{decimal}

-- a remainder that isn't 0 and has another sign than the divisor
abbrev pub is_opposed : ℤ → ℤ → Bool
is_opposed r d = if int_lt d (pos 0) then int_lt (pos 0) r else int_lt r (pos 0)

-- the quotient rounded down, and its remainder, which has the divisor's sign
abbrev pub floor_div : ℤ → ℤ → ℤ
floor_div a d = if is_opposed (int_rem a d) d then int_div a d -ℤ pos 1 else int_div a d

abbrev pub floor_mod : ℤ → ℤ → ℤ
floor_mod a d = if is_opposed (int_rem a d) d then int_rem a d +ℤ d else int_rem a d

-- the number modulo 2^32
abbrev pub word_for : ℕ → ℕ
word_for n = n % 2 ^ 32

-- shifts by 32 bits or more leave nothing, or the sign
abbrev pub shift_left : ℕ → ℕ → ℕ
shift_left x n = if nat_lt n 32 then word_for (x * 2 ^ n) else 0

abbrev pub shift_right : ℕ → ℕ → ℕ
shift_right x n = if nat_lt n 32 then x / 2 ^ n else 0

abbrev pub shift_signed : ℕ → ℕ → ℕ
shift_signed x n = cast_unsigned w32 (int_shr (cast_signed w32 x) (min n 31))

-- an integer in decimal, with ~ for minus
abbrev pub signed_text : ℤ → List ℕ
signed_text (pos n) = decimal n
signed_text (negsuc n) = 126 ∷ decimal (suc n)
