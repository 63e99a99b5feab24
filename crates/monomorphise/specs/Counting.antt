-- How large a program is, as a function that stops as soon as there is more than a limit: its nodes, and then the types that equality needs, one after the
-- other.
use Rattle.std.specs.Prelude.{◌≡◌, ℕ, zero, suc, ◌+◌, ◌-◌, ◌^◌, ◌<◌, ◌⊎◌, Bool, true, false, List, [], ◌∷◌, ◌++◌, length, Option, Some, None, option_map, nat_lt, if◌then◌else◌}
use Rattle.ty_core.specs.Types.{arrow, labels, name, Typ, var, con, Typs, none, more}
use Rattle.ty_core.specs.declared.name.TyName.{TyName}
use Rattle.ir_mono.specs.of_ir_plain.Tree.{Exp}
use Rattle.ir_mono.specs.of_ir_plain.Weight.{weight}
use Rattle.ir_mono.specs.of_ir_poly.Types.{Constructor, find, argument_at}
use Rattle.monomorphise.specs.Expansion.{compared, IsOneOf, IsNeeded, AreDifferent}
use Rattle.monomorphise.specs.Monomorphise.{Named, same_name, same_type}

abbrev pub list_of : Typs → List Typ
list_of none = []
list_of (more t ts) = t ∷ list_of ts

abbrev pub one_if : Option Typ → List Typ
one_if None = []
one_if (Some t) = t ∷ []

abbrev pub argument_in : TyName → List Typ → Option Constructor → Option Typ
argument_in y ts None = None
argument_in y ts (Some k) = if same_name k.datatype y then argument_at ts k.argument else None

-- the arguments of a datatype's constructors, of those with these numbers
abbrev pub arguments_in : List Constructor → TyName → List Typ → List Constructor → List Typ
arguments_in constructors y ts [] = []
arguments_in constructors y ts (k ∷ ks) = one_if (argument_in y ts (find constructors y k.number)) ++ arguments_in constructors y ts ks

-- the types that equality at a type needs at once
abbrev pub parts_of : List Constructor → Typ → List Typ
parts_of constructors (var v) = []
parts_of constructors (con arrow ts) = []
parts_of constructors (con (labels ls) ts) = list_of ts
parts_of constructors (con (name y) ts) = arguments_in constructors y (list_of ts) constructors

abbrev pub is_member : Typ → List Typ → Bool
is_member t [] = false
is_member t (u ∷ ts) = if same_type t u then true else is_member t ts

-- the first that isn't among those so far is one more, and its parts are pending
abbrev pub go_on : List Constructor → (List Typ → List Typ → Option (List Typ)) → List Typ → List Typ → Option (List Typ)
go_on constructors further seen [] = Some seen
go_on constructors further seen (t ∷ ts) =
    if is_member t seen then go_on constructors further seen ts else further (t ∷ seen) (parts_of constructors t ++ ts)

-- all of them, if there are at most so many more than those so far
abbrev pub needed_within : List Constructor → ℕ → List Typ → List Typ → Option (List Typ)
needed_within constructors zero = go_on constructors (λ seen ts. None)
needed_within constructors (suc more_yet) = go_on constructors (needed_within constructors more_yet)

abbrev pub expansion_within : ℕ → List Constructor → Exp Named → Option ℕ
expansion_within limit constructors e =
    if nat_lt limit (weight e) then None
    else option_map (λ ts. weight e + length ts) (needed_within constructors (limit - weight e) [] (compared e))

abbrev pub greatest_expansion : ℕ
greatest_expansion = 2 ^ 20

-- there is more than the limit: it passes with its nodes, or with one type more
pub record Passes (limit : ℕ) (constructors : List Constructor) (e : Exp Named) : Type 0 where
  pub types : List Typ
  pub each_once : AreDifferent types
  pub only : (t : Typ) → IsOneOf t types → IsNeeded constructors (compared e) t
  pub past : limit < weight e + length types
  pub soon : (types ≡ []) ⊎ (weight e + length types ≡ suc limit)
