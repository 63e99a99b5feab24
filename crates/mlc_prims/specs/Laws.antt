-- Laws of the table of primitives.
use Rattle.std.specs.Prelude.{◌≡◌, List, Some}
use Rattle.mlc_prims.specs.LitOf.{Literal}
use Rattle.mlc_prims.specs.PrimOf.{Gives, prim_of}
use Rattle.mlc_prims.specs.Table.{basis_number, row_of}
use Rattle.mlc_prims.specs.declared.prim.Primitive.{Primitive}
use Rattle.mlc_prims.specs.declared.prim.Primitive.TheVariants as today
use Rattle.mlc_prims.specs.declared.basis.BasisPrimitive.{BasisPrimitive}
use Rattle.mlc_prims.specs.declared.basis.BasisPrimitive.TheVariants.{Add, Subtract, Multiply, Concat, Print}

abbrev pub NumbersAreOneToOne : Type 0
NumbersAreOneToOne = (p q : BasisPrimitive) → basis_number p ≡ basis_number q → p ≡ q

-- a primitive that compiles today, in the whole table
abbrev pub in_basis : Primitive → BasisPrimitive
in_basis today.Add = Add
in_basis today.Sub = Subtract
in_basis today.Mul = Multiply
in_basis today.Cat = Concat
in_basis today.Print = Print

abbrev pub TodaysRowsAreRows : Type 0
TodaysRowsAreRows = (p : Primitive) (args : List Literal) (g : Gives) → prim_of p args ≡ Some g → row_of (in_basis p) args ≡ Some g
