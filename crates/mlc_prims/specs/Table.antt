-- The primitives of the initial basis: the values that each takes, and what it gives. [Definition, Appendix D]
use Rattle.std.specs.Prelude.{◌≡◌, ℕ, ◌+◌, ◌-◌, ◌*◌, ◌/◌, ◌%◌, ◌^◌, Bool, ◌==◌, nat_lt, nat_le, if◌then◌else◌, List, [], ◌∷◌, length, take, drop, Option, Some, None, option_map, option_and_then, slice_index_or, ℤ, pos, negsuc, neg_ℤ, ◌+ℤ◌, ◌-ℤ◌, ◌*ℤ◌, int_lt, int_div, int_rem, bit_and, bit_or, bit_xor}
use Rattle.std.specs.Bool.{beq}
use Rattle.std.specs.Int.{cast_signed, cast_unsigned, w32}
use Rattle.std.specs.Str.{bytes_eq}
use Rattle.std.specs.Cmp.Lexicographic.{slice_cmp}
use Rattle.std.specs.Ordering.{nat_cmp, int_cmp, int_eq, is_lt, is_le, is_gt, is_ge}
use Rattle.std.specs.Option.{option_or}
use Rattle.std.specs.declared.cmp.Ordering.{Ordering}
use Rattle.word_arithmetic.specs.Arithmetic.{floor_div, floor_mod, word_for, shift_left, shift_right, shift_signed, signed_text}
use Rattle.mlc_prims.specs.LitOf.{Literal, int, word, char, string, truth, int_in, word_in, char_in, string_in, truth_in, one_in, two_in}
use Rattle.mlc_prims.specs.PrimOf.{Gives, made, raised, int_result, joined}
use Rattle.mlc_prims.specs.declared.basis.BasisPrimitive.{BasisPrimitive}
use Rattle.mlc_prims.specs.declared.basis.BasisPrimitive.TheVariants.{Add, Subtract, Multiply, Divide, Modulo, Negate, Absolute, Less, LessEqual, Greater, GreaterEqual, Equals, Assign, Quotient, Remainder, BitsAnd, BitsOr, BitsXor, BitsNot, ShiftLeft, ShiftRight, ShiftSigned, ToInt, ToIntSigned, FromInt, CharCode, CharOf, TextOf, SizeOf, CharAt, PartOf, Concat, StringOf, Print}
use Rattle.mlc_prims.specs.declared.prim.PrimExn.TheVariants.{Div, Subscript, Chr}

-- the place of a primitive in the table
abbrev pub basis_number : BasisPrimitive → ℕ
basis_number Add = 0
basis_number Subtract = 1
basis_number Multiply = 2
basis_number Divide = 3
basis_number Modulo = 4
basis_number Negate = 5
basis_number Absolute = 6
basis_number Less = 7
basis_number LessEqual = 8
basis_number Greater = 9
basis_number GreaterEqual = 10
basis_number Equals = 11
basis_number Assign = 12
basis_number Quotient = 13
basis_number Remainder = 14
basis_number BitsAnd = 15
basis_number BitsOr = 16
basis_number BitsXor = 17
basis_number BitsNot = 18
basis_number ShiftLeft = 19
basis_number ShiftRight = 20
basis_number ShiftSigned = 21
basis_number ToInt = 22
basis_number ToIntSigned = 23
basis_number FromInt = 24
basis_number CharCode = 25
basis_number CharOf = 26
basis_number TextOf = 27
basis_number SizeOf = 28
basis_number CharAt = 29
basis_number PartOf = 30
basis_number Concat = 31
basis_number StringOf = 32
basis_number Print = 33

-- The arguments of a row, by their kinds.

abbrev pub one : {A : Type 0} → (Literal → Option A) → (A → Gives) → List Literal → Option Gives
one kind f args = option_map f (one_in kind args)

abbrev pub two : {A : Type 0} → (Literal → Option A) → (A → A → Gives) → List Literal → Option Gives
two kind f args = option_map (λ p. f p.0 p.1) (two_in kind args)

-- two integers, or two words
abbrev pub numbers : (ℤ → ℤ → Gives) → (ℕ → ℕ → Gives) → List Literal → Option Gives
numbers f g args = option_or (two int_in f args) (two word_in g args)

-- a string and a place in it; a string, a place and a length
abbrev pub string_place : (List ℕ → ℤ → Gives) → List Literal → Option Gives
string_place f [] = None
string_place f (s ∷ args) = option_and_then (λ s. one int_in (f s) args) (string_in s)

abbrev pub string_part : (List ℕ → ℤ → ℤ → Gives) → List Literal → Option Gives
string_part f [] = None
string_part f (s ∷ args) = option_and_then (λ s. two int_in (f s) args) (string_in s)

-- how two values of one kind stand to each other: signed, unsigned, by code, by bytes with a prefix less
abbrev pub literal_cmp : Literal → Literal → Option Ordering
literal_cmp (int a) l = option_map (int_cmp a) (int_in l)
literal_cmp (word a) l = option_map (nat_cmp a) (word_in l)
literal_cmp (char a) l = option_map (nat_cmp a) (char_in l)
literal_cmp (string a) l = option_map (slice_cmp nat_cmp a) (string_in l)
literal_cmp (truth a) l = None

-- whether two values of one kind are the same
abbrev pub literal_eq : Literal → Literal → Option Bool
literal_eq (int a) l = option_map (int_eq a) (int_in l)
literal_eq (word a) l = option_map (λ b. a == b) (word_in l)
literal_eq (char a) l = option_map (λ b. a == b) (char_in l)
literal_eq (string a) l = option_map (bytes_eq a) (string_in l)
literal_eq (truth a) l = option_map (beq a) (truth_in l)

-- a test of two values
abbrev pub tested : (Literal → Literal → Option Bool) → List Literal → Option Gives
tested test [] = None
tested test (a ∷ []) = None
tested test (a ∷ b ∷ []) = option_map (λ holds. made (truth holds)) (test a b)
tested test (a ∷ b ∷ c ∷ more) = None

abbrev pub compared : (Ordering → Bool) → List Literal → Option Gives
compared test args = tested (λ a b. option_map test (literal_cmp a b)) args

-- What the rows give.

abbrev pub wrapped : ℕ → Gives
wrapped n = made (word (word_for n))

-- a zero divisor raises Div, whatever else holds
abbrev pub unless_zero : ℤ → Gives → Gives
unless_zero (pos n) g = if n == 0 then raised Div else g
unless_zero (negsuc n) g = g

abbrev pub unless_none : ℕ → Gives → Gives
unless_none n g = if n == 0 then raised Div else g

-- n bytes from i on, where these are there
abbrev pub bytes_from : List ℕ → ℤ → ℤ → Option (List ℕ)
bytes_from s (pos i) (pos n) = if nat_le (i + n) (length s) then Some (take n (drop i s)) else None
bytes_from s (pos i) (negsuc n) = None
bytes_from s (negsuc i) n = None

-- the byte at i, where it is there
abbrev pub byte_at : List ℕ → ℤ → Option ℕ
byte_at s (pos i) = if nat_lt i (length s) then Some (slice_index_or s i 0) else None
byte_at s (negsuc i) = None

abbrev pub or_subscript : {A : Type 0} → (A → Literal) → Option A → Gives
or_subscript f None = raised Subscript
or_subscript f (Some a) = made (f a)

abbrev pub character : ℤ → Gives
character (pos n) = if nat_lt n 256 then made (char n) else raised Chr
character (negsuc n) = raised Chr

-- The table, one row a primitive. `:=` and `print` look at the state or change it: no row is theirs, nor of values of other kinds.
abbrev pub row_of : BasisPrimitive → List Literal → Option Gives
row_of Add args = numbers (λ a b. int_result (a +ℤ b)) (λ a b. wrapped (a + b)) args
row_of Subtract args = numbers (λ a b. int_result (a -ℤ b)) (λ a b. wrapped (a + (2 ^ 32 - b))) args
row_of Multiply args = numbers (λ a b. int_result (a *ℤ b)) (λ a b. wrapped (a * b)) args
row_of Divide args = numbers (λ a b. unless_zero b (int_result (floor_div a b))) (λ a b. unless_none b (made (word (a / b)))) args
row_of Modulo args = numbers (λ a b. unless_zero b (made (int (floor_mod a b)))) (λ a b. unless_none b (made (word (a % b)))) args
row_of Negate args = option_or (one int_in (λ a. int_result (neg_ℤ a)) args) (one word_in (λ a. wrapped (2 ^ 32 - a)) args)
row_of Absolute args = one int_in (λ a. int_result (if int_lt a (pos 0) then neg_ℤ a else a)) args
row_of Less args = compared is_lt args
row_of LessEqual args = compared is_le args
row_of Greater args = compared is_gt args
row_of GreaterEqual args = compared is_ge args
row_of Equals args = tested literal_eq args
row_of Assign args = None
row_of Quotient args = two int_in (λ a b. unless_zero b (int_result (int_div a b))) args
row_of Remainder args = two int_in (λ a b. unless_zero b (made (int (int_rem a b)))) args
row_of BitsAnd args = two word_in (λ a b. made (word (bit_and a b))) args
row_of BitsOr args = two word_in (λ a b. made (word (bit_or a b))) args
row_of BitsXor args = two word_in (λ a b. made (word (bit_xor a b))) args
row_of BitsNot args = one word_in (λ a. made (word (2 ^ 32 - 1 - a))) args
row_of ShiftLeft args = two word_in (λ a n. made (word (shift_left a n))) args
row_of ShiftRight args = two word_in (λ a n. made (word (shift_right a n))) args
row_of ShiftSigned args = two word_in (λ a n. made (word (shift_signed a n))) args
row_of ToInt args = one word_in (λ a. int_result (pos a)) args
row_of ToIntSigned args = one word_in (λ a. made (int (cast_signed w32 a))) args
row_of FromInt args = one int_in (λ a. made (word (cast_unsigned w32 a))) args
row_of CharCode args = one char_in (λ a. made (int (pos a))) args
row_of CharOf args = one int_in character args
row_of TextOf args = one int_in (λ a. made (string (signed_text a))) args
row_of SizeOf args = one string_in (λ s. made (int (pos (length s)))) args
row_of CharAt args = string_place (λ s i. or_subscript char (byte_at s i)) args
row_of PartOf args = string_part (λ s i n. or_subscript string (bytes_from s i n)) args
row_of Concat args = two string_in joined args
row_of StringOf args = one char_in (λ a. made (string (a ∷ []))) args
row_of Print args = None

-- the table has a row for these values
abbrev pub HasBasisRow : BasisPrimitive → List Literal → Type 0
HasBasisRow p args = (g : Gives) × (row_of p args ≡ Some g)
