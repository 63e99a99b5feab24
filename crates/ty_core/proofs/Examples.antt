-- Worked examples: type functions.
use Rattle.std.proofs.Common.{◌≡◌, Some, None, true, false, refl}
use Rattle.ty_core.specs.Types.{Typ, var, con, none, more, arrow, name}
use Rattle.ty_core.specs.Statics.{TypeFunction, apply, function_admits, named}
use Rattle.ty_core.specs.declared.name.TyName.{TyName}
use Rattle.ty_core.specs.declared.name.Equality.TheVariants.{Always, ByArguments}

abbrev int : Typ
int = con (name (record { stamp = 0; arity = 0; equality = Always })) none

abbrev string : Typ
string = con (name (record { stamp = 3; arity = 0; equality = Always })) none

abbrev to : Typ → Typ → Typ
to t u = con arrow (more t (more u none))

abbrev list : TyName
list = record { stamp = 6; arity = 1; equality = ByArguments }

-- type 'a pick = 'a -> int
abbrev pick : TypeFunction
pick = record { arity = 1; body = to (var 0) int }

string_pick : apply pick (more string none) ≡ Some (to string int)
string_pick = refl

two_arguments : apply pick (more string (more int none)) ≡ None
two_arguments = refl

picks_never_admit : function_admits pick ≡ false
picks_never_admit = refl

lists_admit : function_admits (named list) ≡ true
lists_admit = refl

int_list : apply (named list) (more int none) ≡ Some (con (name list) (more int none))
int_list = refl
