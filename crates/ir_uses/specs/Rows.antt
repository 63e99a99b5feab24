-- Constructors as they are found, and types that are put for variables.
use Rattle.std.specs.Prelude.{◌≡◌, ℕ, List, Option, Some, None}
use Rattle.ty_core.specs.Types.{Typ, var}
use Rattle.ty_core.specs.declared.name.TyName.{TyName}
use Rattle.ty_table.specs.TypeAt.{type_at}
use Rattle.ir_known.specs.of_ir_poly.Types as clean
use Rattle.ir_known.specs.of_ir_poly.Types.{list_type, pair_type}
use Rattle.ir_known.specs.of_ir_poly.TestsChecked.{HasConstructor, alone_type}
use Rattle.ir_uses.specs.declared.constructor.Argument.{Argument}
use Rattle.ir_uses.specs.declared.constructor.Argument.TheVariants as argument
use Rattle.ir_uses.specs.declared.constructor.Row.{Row}

-- the type of a constructor's argument, over the parameters of its datatype
abbrev pub argument_type : List Typ → Argument → Option Typ
argument_type ts argument.Nothing = None
argument_type ts (argument.Of k) = Some (type_at ts k)
argument_type ts argument.Cell = Some (pair_type (var 0) (list_type (var 0)))

-- what is asked of a constructor that is found
abbrev pub kind_of : clean.Constructor → TyName × Option Typ
kind_of k = (k.datatype, k.argument)

abbrev pub row_kind : List Typ → Row → TyName × Option Typ
row_kind ts r = (r.datatype, argument_type ts r.argument)

-- a constructor of one type is a value of another: of its datatype, or a function to it
abbrev pub IsAlone : List clean.Constructor → ℕ → Typ → Typ → Type 0
IsAlone table c u t = (a : Option Typ) × HasConstructor table c u a × (t ≡ alone_type a u)
