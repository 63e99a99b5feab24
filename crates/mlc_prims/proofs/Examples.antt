-- Rows of the table of primitives, computed.
use Rattle.std.proofs.Common.{◌≡◌, true, false, [], ◌∷◌, codes, refl, Some, None}
use Rattle.std.specs.Prelude.{pos, negsuc}
use Rattle.mlc_prims.specs.LitOf.{int, word, char, string, truth}
use Rattle.mlc_prims.specs.PrimOf.{made, raised}
use Rattle.mlc_prims.specs.declared.prim.PrimExn.TheVariants.{Overflow, Div, Subscript, Chr}
use Rattle.mlc_prims.specs.Table.{row_of}
use Rattle.mlc_prims.specs.declared.basis.BasisPrimitive.TheVariants.{Add, Subtract, Multiply, Divide, Modulo, Negate, Absolute, Less, LessEqual, Greater, GreaterEqual, Quotient, Remainder, BitsAnd, BitsOr, BitsXor, BitsNot, ShiftLeft, ShiftRight, ShiftSigned, ToInt, ToIntSigned, FromInt, CharCode, CharOf, SizeOf, CharAt, PartOf, Concat, StringOf}

word_add : row_of Add (word 4294967295 ∷ word 2 ∷ []) ≡ Some (made (word 1))
word_add = refl

word_subtract : row_of Subtract (word 1 ∷ word 2 ∷ []) ≡ Some (made (word 4294967295))
word_subtract = refl

word_multiply : row_of Multiply (word 65536 ∷ word 65537 ∷ []) ≡ Some (made (word 65536))
word_multiply = refl

mixed : row_of Add (int (pos 1) ∷ word 2 ∷ []) ≡ None
mixed = refl

-- rounded down: 7 by ~2 is ~4, with remainder ~1; ~7 by ~2 is 3, with remainder ~1
divide_up : row_of Divide (int (pos 7) ∷ int (negsuc 1) ∷ []) ≡ Some (made (int (negsuc 3)))
divide_up = refl

modulo_up : row_of Modulo (int (pos 7) ∷ int (negsuc 1) ∷ []) ≡ Some (made (int (negsuc 0)))
modulo_up = refl

divide_both : row_of Divide (int (negsuc 6) ∷ int (negsuc 1) ∷ []) ≡ Some (made (int (pos 3)))
divide_both = refl

modulo_both : row_of Modulo (int (negsuc 6) ∷ int (negsuc 1) ∷ []) ≡ Some (made (int (negsuc 0)))
modulo_both = refl

modulo_exact : row_of Modulo (int (negsuc 5) ∷ int (pos 2) ∷ []) ≡ Some (made (int (pos 0)))
modulo_exact = refl

least_quot : row_of Quotient (int (negsuc 2147483647) ∷ int (negsuc 0) ∷ []) ≡ Some (raised Overflow)
least_quot = refl

least_rem : row_of Remainder (int (negsuc 2147483647) ∷ int (negsuc 0) ∷ []) ≡ Some (made (int (pos 0)))
least_rem = refl

least_mod : row_of Modulo (int (negsuc 2147483647) ∷ int (negsuc 0) ∷ []) ≡ Some (made (int (pos 0)))
least_mod = refl

word_divide : row_of Divide (word 4294967295 ∷ word 16 ∷ []) ≡ Some (made (word 268435455))
word_divide = refl

word_by_zero : row_of Modulo (word 1 ∷ word 0 ∷ []) ≡ Some (raised Div)
word_by_zero = refl

least_negated : row_of Negate (int (negsuc 2147483647) ∷ []) ≡ Some (raised Overflow)
least_negated = refl

word_negated : row_of Negate (word 1 ∷ []) ≡ Some (made (word 4294967295))
word_negated = refl

zero_negated : row_of Negate (word 0 ∷ []) ≡ Some (made (word 0))
zero_negated = refl

least_absolute : row_of Absolute (int (negsuc 2147483647) ∷ []) ≡ Some (raised Overflow)
least_absolute = refl

-- strings by bytes, with a prefix less
prefix_less : row_of Less (string (codes "ab") ∷ string (codes "abc") ∷ []) ≡ Some (made (truth true))
prefix_less = refl

string_greater : row_of Greater (string (codes "b") ∷ string (codes "abc") ∷ []) ≡ Some (made (truth true))
string_greater = refl

string_less_equal : row_of LessEqual (string (codes "b") ∷ string (codes "b") ∷ []) ≡ Some (made (truth true))
string_less_equal = refl

int_less : row_of Less (int (negsuc 0) ∷ int (pos 0) ∷ []) ≡ Some (made (truth true))
int_less = refl

int_not_greater : row_of GreaterEqual (int (negsuc 1) ∷ int (negsuc 0) ∷ []) ≡ Some (made (truth false))
int_not_greater = refl

word_greater : row_of Greater (word 4294967295 ∷ word 1 ∷ []) ≡ Some (made (truth true))
word_greater = refl

char_less : row_of Less (char 97 ∷ char 98 ∷ []) ≡ Some (made (truth true))
char_less = refl

ands : row_of BitsAnd (word 12 ∷ word 10 ∷ []) ≡ Some (made (word 8))
ands = refl

ors : row_of BitsOr (word 12 ∷ word 10 ∷ []) ≡ Some (made (word 14))
ors = refl

xors : row_of BitsXor (word 12 ∷ word 10 ∷ []) ≡ Some (made (word 6))
xors = refl

nots : row_of BitsNot (word 1 ∷ []) ≡ Some (made (word 4294967294))
nots = refl

left_out : row_of ShiftLeft (word 3 ∷ word 31 ∷ []) ≡ Some (made (word 2147483648))
left_out = refl

left_all : row_of ShiftLeft (word 3 ∷ word 32 ∷ []) ≡ Some (made (word 0))
left_all = refl

right_by_four : row_of ShiftRight (word 4294967295 ∷ word 4 ∷ []) ≡ Some (made (word 268435455))
right_by_four = refl

signed_by_four : row_of ShiftSigned (word 4294967280 ∷ word 4 ∷ []) ≡ Some (made (word 4294967295))
signed_by_four = refl

signed_all : row_of ShiftSigned (word 2147483648 ∷ word 99 ∷ []) ≡ Some (made (word 4294967295))
signed_all = refl

word_too_large : row_of ToInt (word 2147483648 ∷ []) ≡ Some (raised Overflow)
word_too_large = refl

word_signed : row_of ToIntSigned (word 4294967295 ∷ []) ≡ Some (made (int (negsuc 0)))
word_signed = refl

int_unsigned : row_of FromInt (int (negsuc 0) ∷ []) ≡ Some (made (word 4294967295))
int_unsigned = refl

no_char : row_of CharOf (int (pos 256) ∷ []) ≡ Some (raised Chr)
no_char = refl

negative_char : row_of CharOf (int (negsuc 0) ∷ []) ≡ Some (raised Chr)
negative_char = refl

last_char : row_of CharOf (int (pos 255) ∷ []) ≡ Some (made (char 255))
last_char = refl

byte_at_two : row_of CharAt (string (codes "abc") ∷ int (pos 2) ∷ []) ≡ Some (made (char 99))
byte_at_two = refl

byte_past : row_of CharAt (string (codes "abc") ∷ int (pos 3) ∷ []) ≡ Some (raised Subscript)
byte_past = refl

middle : row_of PartOf (string (codes "abcd") ∷ int (pos 1) ∷ int (pos 2) ∷ []) ≡ Some (made (string (codes "bc")))
middle = refl

nothing_at_end : row_of PartOf (string (codes "abcd") ∷ int (pos 4) ∷ int (pos 0) ∷ []) ≡ Some (made (string []))
nothing_at_end = refl

past_end : row_of PartOf (string (codes "abcd") ∷ int (pos 3) ∷ int (pos 2) ∷ []) ≡ Some (raised Subscript)
past_end = refl

negative_length : row_of PartOf (string (codes "abcd") ∷ int (pos 0) ∷ int (negsuc 0) ∷ []) ≡ Some (raised Subscript)
negative_length = refl

how_long : row_of SizeOf (string (codes "abc") ∷ []) ≡ Some (made (int (pos 3)))
how_long = refl

both_texts : row_of Concat (string (codes "ab") ∷ string (codes "c") ∷ []) ≡ Some (made (string (codes "abc")))
both_texts = refl

one_byte : row_of StringOf (char 97 ∷ []) ≡ Some (made (string (codes "a")))
one_byte = refl

code_of : row_of CharCode (char 97 ∷ []) ≡ Some (made (int (pos 97)))
code_of = refl
