-- The types of primitives.
use Rattle.std.specs.Prelude.{List, [], ◌∷◌, map}
use Rattle.ty_core.specs.Types.{Typ, var}
use Rattle.ir_known.specs.of_ir_poly.Types.{of_name, ref_type, unit_type, PrimType}
use Rattle.ir_uses.specs.declared.shape.Shape.{Shape}
use Rattle.ir_uses.specs.declared.shape.Shape.TheVariants as shape
use Rattle.ir_uses.specs.declared.shape.Arguments.{Arguments}
use Rattle.ir_uses.specs.declared.shape.Arguments.TheVariants as arguments
use Rattle.ir_uses.specs.declared.shape.Signature.{Signature}

-- the type of a shape, whose parameter is the variable 0
abbrev pub shape_type : Shape → Typ
shape_type shape.Parameter = var 0
shape_type shape.Reference = ref_type (var 0)
shape_type (shape.Named n) = of_name n
shape_type shape.Unit = unit_type

abbrev pub shapes_of : Arguments → List Shape
shapes_of (arguments.One a) = a ∷ []
shapes_of (arguments.Two a b) = a ∷ b ∷ []
shapes_of (arguments.Three a b c) = a ∷ b ∷ c ∷ []

abbrev pub prim_type_of : Signature → PrimType
prim_type_of s = record { mark = s.mark; arguments = map shape_type (shapes_of s.arguments); result = shape_type s.result }
