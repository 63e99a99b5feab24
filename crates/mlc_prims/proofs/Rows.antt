-- The primitives in the order of their numbers, and rows of today's table.
use Rattle.std.specs.Prelude.{◌≡◌, ◌∷◌, [], List, Option, Some, slice_index_or, refl}
use Rattle.std.specs.Option.{option_or}
use Rattle.std.proofs.Common.{sym, ap, ◌∙◌}
use Rattle.mlc_prims.specs.Table.{basis_number}
use Rattle.mlc_prims.specs.Laws.{NumbersAreOneToOne, TodaysRowsAreRows}
use Rattle.mlc_prims.specs.declared.prim.Primitive.TheVariants as today
use Rattle.mlc_prims.specs.declared.basis.BasisPrimitive.{BasisPrimitive}
use Rattle.mlc_prims.specs.declared.basis.BasisPrimitive.TheVariants.{Add, Subtract, Multiply, Divide, Modulo, Negate, Absolute, Less, LessEqual, Greater, GreaterEqual, Equals, Assign, Quotient, Remainder, BitsAnd, BitsOr, BitsXor, BitsNot, ShiftLeft, ShiftRight, ShiftSigned, ToInt, ToIntSigned, FromInt, CharCode, CharOf, TextOf, SizeOf, CharAt, PartOf, Concat, StringOf, Print}

abbrev in_order : List BasisPrimitive
in_order =
    Add ∷ Subtract ∷ Multiply ∷ Divide ∷ Modulo ∷ Negate ∷ Absolute ∷ Less ∷ LessEqual
    ∷ Greater ∷ GreaterEqual ∷ Equals ∷ Assign ∷ Quotient ∷ Remainder ∷ BitsAnd ∷ BitsOr ∷ BitsXor
    ∷ BitsNot ∷ ShiftLeft ∷ ShiftRight ∷ ShiftSigned ∷ ToInt ∷ ToIntSigned ∷ FromInt ∷ CharCode ∷ CharOf
    ∷ TextOf ∷ SizeOf ∷ CharAt ∷ PartOf ∷ Concat ∷ StringOf ∷ Print
    ∷ []

at_its_number : (p : BasisPrimitive) → slice_index_or in_order (basis_number p) Add ≡ p
at_its_number Add = refl
at_its_number Subtract = refl
at_its_number Multiply = refl
at_its_number Divide = refl
at_its_number Modulo = refl
at_its_number Negate = refl
at_its_number Absolute = refl
at_its_number Less = refl
at_its_number LessEqual = refl
at_its_number Greater = refl
at_its_number GreaterEqual = refl
at_its_number Equals = refl
at_its_number Assign = refl
at_its_number Quotient = refl
at_its_number Remainder = refl
at_its_number BitsAnd = refl
at_its_number BitsOr = refl
at_its_number BitsXor = refl
at_its_number BitsNot = refl
at_its_number ShiftLeft = refl
at_its_number ShiftRight = refl
at_its_number ShiftSigned = refl
at_its_number ToInt = refl
at_its_number ToIntSigned = refl
at_its_number FromInt = refl
at_its_number CharCode = refl
at_its_number CharOf = refl
at_its_number TextOf = refl
at_its_number SizeOf = refl
at_its_number CharAt = refl
at_its_number PartOf = refl
at_its_number Concat = refl
at_its_number StringOf = refl
at_its_number Print = refl

pub numbers-are-one-to-one : NumbersAreOneToOne
numbers-are-one-to-one p q e = sym (at_its_number p) ∙ ap (λ n. slice_index_or in_order n Add) e ∙ at_its_number q

first-is : {A : Type 0} (o r : Option A) (a : A) → o ≡ Some a → option_or o r ≡ Some a
first-is o r a e = ap (λ x. option_or x r) e

pub todays-rows-are-rows : TodaysRowsAreRows
todays-rows-are-rows today.Add args g e = first-is _ _ g e
todays-rows-are-rows today.Sub args g e = first-is _ _ g e
todays-rows-are-rows today.Mul args g e = first-is _ _ g e
todays-rows-are-rows today.Cat args g e = e
todays-rows-are-rows today.Print args g e = e
