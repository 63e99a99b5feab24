-- What is asked of a use of a variable, and of types in scope, in the words of the typing.
use Rattle.std.specs.Prelude.{◌≡◌, Bool, true, false, List, [], ◌++◌, Option, Some, None, ⊤}
use Rattle.ty_core.specs.Types.{Typ, var, typs_of}
use Rattle.ty_core.specs.Statics.{replace}
use Rattle.ty_core.specs.declared.name.TyName.{TyName}
use Rattle.ty_core.specs.declared.scheme.Quantified.{Quantified}
use Rattle.mlc_prims.specs.declared.basis.BasisPrimitive.{BasisPrimitive}
use Rattle.ir_known.specs.of_ir_poly.Types.{Constructor, initial_constructors, int_name, word_name, char_name, string_name, over, all_over, admits_in, changed, AreAllowed, arguments_at, result_at, function_type, tuple_type}
use Rattle.ir_known.specs.of_ir_poly.TestsChecked.{Known, of_type, general, own, exception, value_type}
use Rattle.ir_known.specs.of_ir_tables.declared.tables.Tables.{Tables}
use Rattle.ir_known.specs.of_ir_tables.declared.tables.Constant.{Constant}
use Rattle.ir_known.specs.of_ir_tables.declared.tables.Constant.TheVariants as constant
use Rattle.ir_known.specs.of_ir_tables.Tables.{constructors_of}

-- the constructors that a program of these tables has
abbrev pub table_at : Tables → List Constructor
table_at t = initial_constructors ++ constructors_of t

-- the type name of a constant's type
abbrev pub name_of : Constant → TyName
name_of (constant.Int z) = int_name
name_of (constant.Word n) = word_name
name_of (constant.Char n) = char_name
name_of (constant.Text k) = string_name

-- t is an instance, at these types, of a type that is generalised over parameters
abbrev pub IsInstance : List Quantified → List Quantified → Typ → List Typ → Typ → Type 0
IsInstance D qs b ts t = AreAllowed (admits_in D) qs ts × (all_over D (typs_of ts) ≡ true) × (t ≡ replace (changed qs ts var) b)

-- what is known is a type, of one or generalised
abbrev pub has_type : Option Known → Bool
has_type None = false
has_type (Some (of_type t)) = true
has_type (Some (general qs s t)) = true
has_type (Some (own t)) = false
has_type (Some (exception a)) = false

-- a use at types of what is known of the variable, if it is known, is of this type
abbrev pub UseFits : List Quantified → Option Known → List Typ → Typ → Type 0
UseFits D None ts t = ⊥
UseFits D (Some (of_type u)) ts t = (ts ≡ []) × (u ≡ t)
UseFits D (Some (own u)) ts t = (ts ≡ []) × (u ≡ t)
UseFits D (Some (exception a)) ts t = (ts ≡ []) × (t ≡ value_type a)
UseFits D (Some (general qs s b)) ts t =
    (s ≡ var) × AreAllowed (admits_in D) qs ts × (all_over D (typs_of ts) ≡ true) × (t ≡ replace (changed qs ts var) b)

-- the argument of an exception, if it has one, has a type over the parameters in scope
abbrev pub ArgumentFits : List Quantified → Option Typ → Type 0
ArgumentFits D None = ⊤
ArgumentFits D (Some a) = over D a ≡ true

-- the type of a primitive as a value
abbrev pub value_at : BasisPrimitive → Typ → Typ
value_at p u = function_type (tuple_type (arguments_at p u)) (result_at p u)
