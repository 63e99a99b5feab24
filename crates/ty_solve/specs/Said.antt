-- What a substitution says of a variable.
use Rattle.std.specs.Prelude.{ℕ}
use Rattle.ty_solve.specs.Substitution.{Entry}
use Rattle.ty_solve.specs.SlotsOf.{seen}
use Rattle.ty_solve.specs.declared.subst.Subst.{Subst}

abbrev pub said : Subst → ℕ → Entry
said s = seen s.types s.slots.items
