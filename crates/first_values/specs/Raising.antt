-- At which operands a primitive may raise an exception.
use Rattle.std.specs.Prelude.{Bool, true, false}
use Rattle.ir_values.specs.of_mlc_prims.declared.basis.BasisPrimitive.{BasisPrimitive}
use Rattle.ir_values.specs.of_mlc_prims.declared.basis.BasisPrimitive.TheVariants.{Add, Subtract, Multiply, Divide, Modulo, Negate, Absolute, Quotient, Remainder, ToInt, CharOf, CharAt, PartOf, Concat}
use Rattle.first_values.specs.Operations.{Operands, ints, words, chars, texts}

-- Overflow, Div and Chr
abbrev pub raises_at_ints : BasisPrimitive → Bool
raises_at_ints Add = true
raises_at_ints Subtract = true
raises_at_ints Multiply = true
raises_at_ints Divide = true
raises_at_ints Modulo = true
raises_at_ints Negate = true
raises_at_ints Absolute = true
raises_at_ints Quotient = true
raises_at_ints Remainder = true
raises_at_ints CharOf = true
raises_at_ints p = false

-- Div; and Overflow where no integer is as large
abbrev pub raises_at_words : BasisPrimitive → Bool
raises_at_words Divide = true
raises_at_words Modulo = true
raises_at_words ToInt = true
raises_at_words p = false

-- Subscript and Size
abbrev pub raises_at_texts : BasisPrimitive → Bool
raises_at_texts CharAt = true
raises_at_texts PartOf = true
raises_at_texts Concat = true
raises_at_texts p = false

abbrev pub may_raise : Operands → BasisPrimitive → Bool
may_raise ints p = raises_at_ints p
may_raise words p = raises_at_words p
may_raise chars p = false
may_raise texts p = raises_at_texts p
