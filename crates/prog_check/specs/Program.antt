-- Whether a program with source matches is well formed, as a function: the basis' exceptions, its table, its typing, and each variable bound once.
use Rattle.std.specs.Prelude.{ℕ, Bool, true, false, not, ◌&&◌, List, [], ◌∷◌, length, Option, Some, None, nat_eq, nat_lt}
use Rattle.ty_core.specs.Types.{Typ, var, con, Typs, none, more, admits}
use Rattle.ty_core.specs.declared.name.TyName.{TyName}
use Rattle.ty_core.specs.declared.name.Equality.{Equality}
use Rattle.ty_core.specs.declared.name.Equality.TheVariants.{Always, ByArguments, Never}
use Rattle.ir_poly.specs.Prog.{Decs}
use Rattle.ir_poly.specs.Types.{Constructor, is_of_basis}
use Rattle.ir_poly.specs.WellFormed.{Program, table_of}
use Rattle.prog_check.specs.Checking.{check_decs}
use Rattle.prog_check.specs.Binders.{decs_binders, are_distinct}

-- a type's variables lie below n
abbrev mutual
  pub below : ℕ → Typ → Bool
  below n (var v) = nat_lt v n
  below n (con h ts) = all_below n ts

  pub all_below : ℕ → Typs → Bool
  all_below n none = true
  all_below n (more t ts) = below n t && all_below n ts

abbrev pub every : ℕ → Bool
every v = true

-- what the argument of a constructor owes to the datatype's equality
abbrev pub respects : Equality → Typ → Bool
respects Always a = true
respects ByArguments a = admits every a
respects Never a = true

abbrev pub check_argument : ℕ → Equality → Option Typ → Bool
check_argument n e None = true
check_argument n e (Some a) = below n a && respects e a

abbrev pub is_always : Equality → Bool
is_always Always = true
is_always ByArguments = false
is_always Never = false

-- whether a datatype may be declared
abbrev pub check_datatype : TyName → Bool
check_datatype y = not (is_of_basis y) && not (is_always y.equality)

abbrev pub check_constructor : Constructor → Bool
check_constructor k = check_datatype k.datatype && check_argument k.datatype.arity k.datatype.equality k.argument

abbrev pub check_table : List Constructor → Bool
check_table [] = true
check_table (k ∷ ks) = check_constructor k && check_table ks

abbrev pub check : Program Decs → Bool
check p = nat_eq (length p.initial) 7 && (check_table p.constructors && (check_decs (table_of p) [] [] p.body && are_distinct (decs_binders p.body)))
