-- Types of the primitives. [Definition, Appendices D and E]
use Rattle.std.specs.Prelude.{ℕ, suc, true, false, List, [], ◌∷◌}
use Rattle.ty_core.specs.of_mlc_names.declared.label.Label.TheVariants.{Number}
use Rattle.mlc_prims.specs.declared.basis.BasisPrimitive.{BasisPrimitive}
use Rattle.mlc_prims.specs.declared.basis.BasisPrimitive.TheVariants.{Add, Subtract, Multiply, Divide, Modulo, Negate, Absolute, Less, LessEqual, Greater, GreaterEqual, Equals, Assign, Quotient, Remainder, BitsAnd, BitsOr, BitsXor, BitsNot, ShiftLeft, ShiftRight, ShiftSigned, ToInt, ToIntSigned, FromInt, CharCode, CharOf, TextOf, SizeOf, CharAt, PartOf, Concat, StringOf, Print}
use Rattle.ty_core.specs.Types.{Typ, var}
use Rattle.ty_core.specs.declared.mark.Mark.{Mark}
use Rattle.ty_core.specs.declared.mark.Mark.TheVariants.{Any, Equality, Class}
use Rattle.ty_basis.specs.Types.{Row, int_type, word_type, char_type, string_type, bool_type, unit_type, ref_type, row_type, function_type}

-- the types of arguments and result, in which the variable 0 stands for any type that the mark allows; where there is none the mark is Any
pub record PrimType : Type 0 where
  pub mark : Mark
  pub arguments : List Typ
  pub result : Typ

abbrev pub prim_row : Mark → List Typ → Typ → PrimType
prim_row m as_ r = record { mark = m; arguments = as_; result = r }

-- the types with arithmetic, and those with an order
abbrev pub numbers : Mark
numbers = Class (record { int = true; word = true; char = false; string = false })

abbrev pub ordered : Mark
ordered = Class (record { int = true; word = true; char = true; string = true })

abbrev pub one_to_one : Typ → Typ → PrimType
one_to_one a r = prim_row Any (a ∷ []) r

abbrev pub two_to_one : Typ → Typ → Typ → PrimType
two_to_one a b r = prim_row Any (a ∷ b ∷ []) r

abbrev pub binary : PrimType
binary = prim_row numbers (var 0 ∷ var 0 ∷ []) (var 0)

abbrev pub comparison : PrimType
comparison = prim_row ordered (var 0 ∷ var 0 ∷ []) bool_type

abbrev pub prim_type : BasisPrimitive → PrimType
prim_type Add = binary
prim_type Subtract = binary
prim_type Multiply = binary
prim_type Divide = binary
prim_type Modulo = binary
prim_type Negate = prim_row numbers (var 0 ∷ []) (var 0)
prim_type Absolute = one_to_one int_type int_type
prim_type Less = comparison
prim_type LessEqual = comparison
prim_type Greater = comparison
prim_type GreaterEqual = comparison
prim_type Equals = prim_row Equality (var 0 ∷ var 0 ∷ []) bool_type
prim_type Assign = prim_row Any (ref_type (var 0) ∷ var 0 ∷ []) unit_type
prim_type Quotient = two_to_one int_type int_type int_type
prim_type Remainder = two_to_one int_type int_type int_type
prim_type BitsAnd = two_to_one word_type word_type word_type
prim_type BitsOr = two_to_one word_type word_type word_type
prim_type BitsXor = two_to_one word_type word_type word_type
prim_type BitsNot = one_to_one word_type word_type
prim_type ShiftLeft = two_to_one word_type word_type word_type
prim_type ShiftRight = two_to_one word_type word_type word_type
prim_type ShiftSigned = two_to_one word_type word_type word_type
prim_type ToInt = one_to_one word_type int_type
prim_type ToIntSigned = one_to_one word_type int_type
prim_type FromInt = one_to_one int_type word_type
prim_type CharCode = one_to_one char_type int_type
prim_type CharOf = one_to_one int_type char_type
prim_type TextOf = one_to_one int_type string_type
prim_type SizeOf = one_to_one string_type int_type
prim_type CharAt = two_to_one string_type int_type char_type
prim_type PartOf = prim_row Any (string_type ∷ int_type ∷ int_type ∷ []) string_type
prim_type Concat = two_to_one string_type string_type string_type
prim_type StringOf = one_to_one char_type string_type
prim_type Print = one_to_one string_type unit_type

-- the labels 1, 2, ..
abbrev pub numbered : ℕ → List Typ → Row
numbered k [] = []
numbered k (t ∷ ts) = (Number k, t) ∷ numbered (suc k) ts

-- a primitive as a function takes its argument, or a tuple of them
abbrev pub tuple_type : List Typ → Typ
tuple_type (t ∷ []) = t
tuple_type ts = row_type (numbered 1 ts)

abbrev pub primitive_type : BasisPrimitive → Typ
primitive_type q = function_type (tuple_type (prim_type q).arguments) (prim_type q).result
