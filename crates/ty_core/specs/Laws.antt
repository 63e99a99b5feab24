-- Laws of type functions.
use Rattle.std.specs.Prelude.{◌≡◌, Some}
use Rattle.ty_core.specs.Types.{Typs, con, name}
use Rattle.ty_core.specs.Statics.{apply, named, count}
use Rattle.ty_core.specs.declared.name.TyName.{TyName}

-- a type name, as a function of as many types as it takes, gives its type with these arguments
abbrev pub NamesGiveTheirTypes : Type 0
NamesGiveTheirTypes = (n : TyName) (ts : Typs) → count ts ≡ n.arity → apply (named n) ts ≡ Some (con (name n) ts)
