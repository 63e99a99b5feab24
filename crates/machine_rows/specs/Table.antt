-- The code of every primitive at every kind of operands.
use Rattle.std.specs.Prelude.{ℕ, ◌^◌, ◌-◌, [], Option, Some, None}
use Rattle.ir_code.specs.declared.instr.Instr.TheVariants.{Add as AddRow, Sub as SubRow, Mul as MulRow, IDiv, IMod, IQuot, IRem, WAdd, WSub, WMul, WDiv, WMod, And, Or, Xor, Shl, Shr, Sar, ILt, ULt, Eq, SCmp}
use Rattle.mlc_prims.specs.declared.basis.BasisPrimitive.{BasisPrimitive}
use Rattle.mlc_prims.specs.declared.basis.BasisPrimitive.TheVariants.{Add, Subtract, Multiply, Divide, Modulo, Negate, Absolute, Less, LessEqual, Greater, GreaterEqual, Equals, Quotient, Remainder, BitsAnd, BitsOr, BitsXor, BitsNot, ShiftLeft, ShiftRight, ShiftSigned, ToInt, ToIntSigned, FromInt, CharCode, CharOf, TextOf, SizeOf, CharAt, PartOf, Concat, StringOf}
use Rattle.mlc_prims.specs.declared.prim.PrimExn.{PrimExn}
use Rattle.mlc_prims.specs.declared.prim.PrimExn.TheVariants.{Overflow, Div, Chr}
use Rattle.first_values.specs.Operations.{Operands, ints, words, chars, texts}
use Rattle.machine_primitives.specs.of_machine_code.Rows.{Rows}
use Rattle.machine_primitives.specs.RowLaws.{Code, TestCode}
use Rattle.machine_primitives.specs.RowCode.{total, partial, negated, moved, from_word, limited, loaded, contrary, holds, swapped, fails, divided, magnitude, against, are_same, byte_of, part_of, join_of, text_of_one, text_of_int}

-- code, and how many instructions it has
pub record Row : Type 0 where
  pub size : ℕ
  pub late : Option PrimExn
  pub code : Code

pub record TestRow : Type 0 where
  pub size : ℕ
  pub code : TestCode

abbrev pub row : ℕ → Code → Row
row n code = record { size = n; late = None; code = code }

-- one whose packet comes into its slot where it raises
abbrev pub late_row : ℕ → PrimExn → Code → Row
late_row n e code = record { size = n; late = Some e; code = code }

abbrev pub test : ℕ → TestCode → TestRow
test n code = record { size = n; code = code }

-- a primitive that takes no such operands has none
abbrev pub no_row : Row
no_row = row 0 (λ packets pc d other xs. [])

abbrev pub no_test : TestRow
no_test = test 0 (λ pc d other xs. [])

abbrev pub int_row : BasisPrimitive → Row
int_row Add = late_row 2 Overflow (partial AddRow)
int_row Subtract = late_row 2 Overflow (partial SubRow)
int_row Multiply = late_row 2 Overflow (partial MulRow)
int_row Divide = row 5 (divided IDiv)
int_row Modulo = late_row 2 Div (partial IMod)
int_row Quotient = row 5 (divided IQuot)
int_row Remainder = late_row 2 Div (partial IRem)
int_row Negate = row 4 negated
int_row Absolute = row 8 magnitude
int_row Less = row 1 (total ILt)
int_row LessEqual = row 3 (contrary (swapped ILt))
int_row Greater = row 1 (total (swapped ILt))
int_row GreaterEqual = row 3 (contrary ILt)
int_row Equals = row 1 (total Eq)
int_row FromInt = row 1 moved
int_row CharOf = row 5 (limited Chr 256)
int_row TextOf = row 1 text_of_int
int_row p = no_row

abbrev pub word_row : BasisPrimitive → Row
word_row Add = row 1 (total WAdd)
word_row Subtract = row 1 (total WSub)
word_row Multiply = row 1 (total WMul)
word_row Divide = late_row 2 Div (partial WDiv)
word_row Modulo = late_row 2 Div (partial WMod)
word_row Negate = row 2 (from_word 0 WSub)
word_row Less = row 1 (total ULt)
word_row LessEqual = row 3 (contrary (swapped ULt))
word_row Greater = row 1 (total (swapped ULt))
word_row GreaterEqual = row 3 (contrary ULt)
word_row Equals = row 1 (total Eq)
word_row BitsAnd = row 1 (total And)
word_row BitsOr = row 1 (total Or)
word_row BitsXor = row 1 (total Xor)
word_row BitsNot = row 2 (from_word (2 ^ 32 - 1) WSub)
word_row ShiftLeft = row 1 (total Shl)
word_row ShiftRight = row 1 (total Shr)
word_row ShiftSigned = row 1 (total Sar)
word_row ToInt = row 5 (limited Overflow (2 ^ 31))
word_row ToIntSigned = row 1 moved
word_row p = no_row

abbrev pub char_row : BasisPrimitive → Row
char_row Less = row 1 (total ULt)
char_row LessEqual = row 3 (contrary (swapped ULt))
char_row Greater = row 1 (total (swapped ULt))
char_row GreaterEqual = row 3 (contrary ULt)
char_row Equals = row 1 (total Eq)
char_row CharCode = row 1 moved
char_row StringOf = row 4 text_of_one
char_row p = no_row

-- the machine's comparison of texts gives 0, 1 or 2: less, equal or greater
abbrev pub text_row : BasisPrimitive → Row
text_row Less = row 3 (against 0 SCmp Eq)
text_row LessEqual = row 3 (against 0 (swapped SCmp) (swapped ULt))
text_row Greater = row 3 (against 0 (swapped SCmp) Eq)
text_row GreaterEqual = row 3 (against 0 SCmp (swapped ULt))
text_row Equals = row 3 (against 1 SCmp Eq)
text_row SizeOf = row 1 loaded
text_row CharAt = row 6 byte_of
text_row PartOf = row 17 part_of
text_row Concat = row 20 join_of
text_row p = no_row

abbrev pub row_at : Operands → BasisPrimitive → Row
row_at ints p = int_row p
row_at words p = word_row p
row_at chars p = char_row p
row_at texts p = text_row p

-- Tests.

abbrev pub int_test : BasisPrimitive → TestRow
int_test Less = test 2 (holds ILt)
int_test LessEqual = test 3 (fails (swapped ILt))
int_test Greater = test 2 (holds (swapped ILt))
int_test GreaterEqual = test 3 (fails ILt)
int_test Equals = test 2 (holds Eq)
int_test p = no_test

-- of words, and of characters
abbrev pub word_test : BasisPrimitive → TestRow
word_test Less = test 2 (holds ULt)
word_test LessEqual = test 3 (fails (swapped ULt))
word_test Greater = test 2 (holds (swapped ULt))
word_test GreaterEqual = test 3 (fails ULt)
word_test Equals = test 2 (holds Eq)
word_test p = no_test

abbrev pub text_test : BasisPrimitive → TestRow
text_test Less = test 3 (fails SCmp)
text_test LessEqual = test 2 (holds (swapped SCmp))
text_test Greater = test 3 (fails (swapped SCmp))
text_test GreaterEqual = test 2 (holds SCmp)
text_test Equals = test 4 are_same
text_test p = no_test

abbrev pub test_at : Operands → BasisPrimitive → TestRow
test_at ints p = int_test p
test_at words p = word_test p
test_at chars p = word_test p
test_at texts p = text_test p

abbrev pub rows : Rows
rows = record {
  size = λ k p. (row_at k p).size;
  code = λ k p. (row_at k p).code;
  late = λ k p. (row_at k p).late;
  test_size = λ k p. (test_at k p).size;
  test_code = λ k p. (test_at k p).code;
}
