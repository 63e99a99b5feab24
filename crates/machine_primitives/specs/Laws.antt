-- Which primitives the code is right for.
use Rattle.std.specs.Prelude.{◌-◌, ◌^◌, Some}
use Rattle.ir_code.specs.declared.instr.Instr.TheVariants.{Add as AddRow, Sub as SubRow, Mul as MulRow, WAdd, WSub, WMul, WDiv, WMod, IDiv, IMod, IQuot, IRem, And, Or, Xor, Shl, Shr, Sar, ILt, ULt, Eq, SCmp}
use Rattle.mlc_prims.specs.declared.basis.BasisPrimitive.TheVariants.{Add, Subtract, Multiply, Divide, Modulo, Quotient, Remainder, Negate, Absolute, BitsAnd, BitsOr, BitsXor, BitsNot, ShiftLeft, ShiftRight, ShiftSigned, Less, LessEqual, Greater, GreaterEqual, Equals, FromInt, ToInt, ToIntSigned, CharCode, CharOf, TextOf, SizeOf, CharAt, PartOf, Concat, StringOf}
use Rattle.mlc_prims.specs.declared.prim.PrimExn.TheVariants.{Overflow, Div, Chr}
use Rattle.first_values.specs.Operations.{ints, words, chars, texts}
use Rattle.machine_primitives.specs.RowLaws.{LateIsRight, RowIsRight, TestIsRight}
use Rattle.machine_primitives.specs.RowCode.{total, partial, divided, negated, magnitude, moved, from_word, limited, loaded, contrary, holds, swapped, fails, against, are_same, byte_of, part_of, join_of, text_of_one, text_of_int}

-- sums, differences and products: of integers exact, or Overflow; of words modulo 2^32
pub record SumsAreRight : Type 0 where
  pub int_add : LateIsRight (Some Overflow) ints Add 2 (partial AddRow)
  pub int_subtract : LateIsRight (Some Overflow) ints Subtract 2 (partial SubRow)
  pub int_multiply : LateIsRight (Some Overflow) ints Multiply 2 (partial MulRow)
  pub word_add : RowIsRight words Add 1 (total WAdd)
  pub word_subtract : RowIsRight words Subtract 1 (total WSub)
  pub word_multiply : RowIsRight words Multiply 1 (total WMul)

-- quotients and remainders of words, or Div
pub record WordQuotientsAreRight : Type 0 where
  pub divide : LateIsRight (Some Div) words Divide 2 (partial WDiv)
  pub modulo : LateIsRight (Some Div) words Modulo 2 (partial WMod)

-- the remainder of integers with the sign of the dividend, or Div; the negative of an integer, or Overflow
pub record IntRowsAreRight : Type 0 where
  pub remainder : LateIsRight (Some Div) ints Remainder 2 (partial IRem)
  pub negate : RowIsRight ints Negate 4 negated

-- quotients of integers rounded down and towards zero, or Div where the divisor is 0, or Overflow where there is none; what is left by the first; absolute
-- values, or Overflow
pub record DivisionsAreRight : Type 0 where
  pub divide : RowIsRight ints Divide 5 (divided IDiv)
  pub modulo : LateIsRight (Some Div) ints Modulo 2 (partial IMod)
  pub quotient : RowIsRight ints Quotient 5 (divided IQuot)
  pub absolute : RowIsRight ints Absolute 8 magnitude

-- bits, shifts, and a word's negative and complement
pub record BitsAreRight : Type 0 where
  pub bits_and : RowIsRight words BitsAnd 1 (total And)
  pub bits_or : RowIsRight words BitsOr 1 (total Or)
  pub bits_xor : RowIsRight words BitsXor 1 (total Xor)
  pub left : RowIsRight words ShiftLeft 1 (total Shl)
  pub right : RowIsRight words ShiftRight 1 (total Shr)
  pub signed : RowIsRight words ShiftSigned 1 (total Sar)
  pub bits_not : RowIsRight words BitsNot 2 (from_word (2 ^ 32 - 1) WSub)
  pub negate : RowIsRight words Negate 2 (from_word 0 WSub)

-- a word of an integer's bits, and a character's code
pub record ConversionsAreRight : Type 0 where
  pub from_int : RowIsRight ints FromInt 1 moved
  pub char_code : RowIsRight chars CharCode 1 moved

-- truth values of comparisons
pub record TruthsAreRight : Type 0 where
  pub int_less : RowIsRight ints Less 1 (total ILt)
  pub int_greater : RowIsRight ints Greater 1 (total (swapped ILt))
  pub int_equals : RowIsRight ints Equals 1 (total Eq)
  pub word_less : RowIsRight words Less 1 (total ULt)
  pub word_greater : RowIsRight words Greater 1 (total (swapped ULt))
  pub word_equals : RowIsRight words Equals 1 (total Eq)
  pub char_less : RowIsRight chars Less 1 (total ULt)
  pub char_greater : RowIsRight chars Greater 1 (total (swapped ULt))
  pub char_equals : RowIsRight chars Equals 1 (total Eq)

-- a word as an integer, by its value or Overflow, or by its bits; a character of a code, or Chr
pub record LimitsAreRight : Type 0 where
  pub to_int : RowIsRight words ToInt 5 (limited Overflow (2 ^ 31))
  pub to_int_signed : RowIsRight words ToIntSigned 1 moved
  pub char_of : RowIsRight ints CharOf 5 (limited Chr 256)

-- how many bytes a string has
pub record SizesAreRight : Type 0 where
  pub size_of : RowIsRight texts SizeOf 1 loaded

-- at most and at least, as values
pub record ContrariesAreRight : Type 0 where
  pub int_less_equal : RowIsRight ints LessEqual 3 (contrary (swapped ILt))
  pub int_greater_equal : RowIsRight ints GreaterEqual 3 (contrary ILt)
  pub word_less_equal : RowIsRight words LessEqual 3 (contrary (swapped ULt))
  pub word_greater_equal : RowIsRight words GreaterEqual 3 (contrary ULt)
  pub char_less_equal : RowIsRight chars LessEqual 3 (contrary (swapped ULt))
  pub char_greater_equal : RowIsRight chars GreaterEqual 3 (contrary ULt)

-- tests of two integers, words or characters
pub record ComparisonsAreRight : Type 0 where
  pub int_less : TestIsRight ints Less 2 (holds ILt)
  pub int_greater : TestIsRight ints Greater 2 (holds (swapped ILt))
  pub int_less_equal : TestIsRight ints LessEqual 3 (fails (swapped ILt))
  pub int_greater_equal : TestIsRight ints GreaterEqual 3 (fails ILt)
  pub int_equals : TestIsRight ints Equals 2 (holds Eq)
  pub word_less : TestIsRight words Less 2 (holds ULt)
  pub word_greater : TestIsRight words Greater 2 (holds (swapped ULt))
  pub word_less_equal : TestIsRight words LessEqual 3 (fails (swapped ULt))
  pub word_greater_equal : TestIsRight words GreaterEqual 3 (fails ULt)
  pub word_equals : TestIsRight words Equals 2 (holds Eq)
  pub char_less : TestIsRight chars Less 2 (holds ULt)
  pub char_greater : TestIsRight chars Greater 2 (holds (swapped ULt))
  pub char_less_equal : TestIsRight chars LessEqual 3 (fails (swapped ULt))
  pub char_greater_equal : TestIsRight chars GreaterEqual 3 (fails ULt)
  pub char_equals : TestIsRight chars Equals 2 (holds Eq)

-- texts by their bytes, with a prefix less: as values, and as tests
pub record TextOrdersAreRight : Type 0 where
  pub less : RowIsRight texts Less 3 (against 0 SCmp Eq)
  pub less_equal : RowIsRight texts LessEqual 3 (against 0 (swapped SCmp) (swapped ULt))
  pub greater : RowIsRight texts Greater 3 (against 0 (swapped SCmp) Eq)
  pub greater_equal : RowIsRight texts GreaterEqual 3 (against 0 SCmp (swapped ULt))
  pub equals : RowIsRight texts Equals 3 (against 1 SCmp Eq)
  pub is_less : TestIsRight texts Less 3 (fails SCmp)
  pub is_less_equal : TestIsRight texts LessEqual 2 (holds (swapped SCmp))
  pub is_greater : TestIsRight texts Greater 3 (fails (swapped SCmp))
  pub is_greater_equal : TestIsRight texts GreaterEqual 2 (holds SCmp)
  pub are_equal : TestIsRight texts Equals 4 are_same

-- the character at a place and a part from a place on, or Subscript; two texts as one, or Size; a text of one character, and an integer's
pub record TextsAreRight : Type 0 where
  pub char_at : RowIsRight texts CharAt 6 byte_of
  pub part : RowIsRight texts PartOf 17 part_of
  pub concat : RowIsRight texts Concat 20 join_of
  pub string_of : RowIsRight chars StringOf 4 text_of_one
  pub text_of : RowIsRight ints TextOf 1 text_of_int
