-- What the program's table asks of a constructor's argument.
use Rattle.std.specs.Prelude.{◌≡◌, ◌≤◌, true}
use Rattle.ty_core.specs.Types.{Typ, admits}
use Rattle.ty_core.specs.declared.name.Equality.TheVariants.{ByArguments}
use Rattle.ty_core.specs.declared.name.TyName.{TyName}
use Rattle.ty_table.specs.TypeAt.{every_variable, top}

-- its type is over the datatype's parameters, and admits equality where the datatype does
pub record IsFitting (y : TyName) (t : Typ) : Type 0 where
  pub over : top t ≤ y.arity
  pub equality : y.equality ≡ ByArguments → admits every_variable t ≡ true
