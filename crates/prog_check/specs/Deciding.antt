-- What the rules of typing ask of types, as functions.
use Rattle.std.specs.Prelude.{ℕ, Bool, true, false, ◌&&◌, List, [], ◌∷◌, Option, Some, None, nat_lt, option_map, if◌then◌else◌}
use Rattle.mlc_names.specs.declared.label.Label.{Label}
use Rattle.mlc_prims.specs.LitOf.{Literal, int, word, char, string, truth}
use Rattle.mlc_prims.specs.declared.basis.BasisPrimitive.{BasisPrimitive}
use Rattle.ty_core.specs.Types.{arrow, labels, name, Typ, var, con, Typs, none, more, typs_of, admits}
use Rattle.ty_core.specs.Marks.{overloaded, has}
use Rattle.ty_core.specs.Statics.{replace}
use Rattle.ty_core.specs.declared.mark.Class.{Class}
use Rattle.ty_core.specs.declared.mark.Mark.{Mark}
use Rattle.ty_core.specs.declared.mark.Mark.TheVariants as mark
use Rattle.ty_core.specs.declared.name.TyName.{TyName}
use Rattle.ty_core.specs.declared.scheme.Quantified.{Quantified}
use Rattle.ir_poly.specs.Prog.{Exc, fixed, held}
use Rattle.ir_poly.specs.Types.{int_name, word_name, char_name, string_name, of_name, function_type, over, all_over, admits_in, changed, Constructor, find, argument_at, prim_type, arguments_at, result_at, tuple_type}
use Rattle.ir_poly.specs.TestsChecked.{Known, of_type, general, own, exception, Knowns, at, value_type, alone_type}
use Rattle.prog_check.specs.Same.{same_name, same_type, same_option}

abbrev pub list_of : Typs → List Typ
list_of none = []
list_of (more t ts) = t ∷ list_of ts

abbrev pub is_literal : Literal → Typ → Bool
is_literal (int z) t = same_type t (of_name int_name)
is_literal (word n) t = same_type t (of_name word_name)
is_literal (char n) t = same_type t (of_name char_name)
is_literal (string s) t = same_type t (of_name string_name)
is_literal (truth b) t = false

-- the fields of a record's type
abbrev pub in_front : Label → Typ → List (Label × Typ) → List (Label × Typ)
in_front l t r = (l, t) ∷ r

abbrev pub joined : List Label → Typs → Option (List (Label × Typ))
joined [] none = Some []
joined [] (more t ts) = None
joined (l ∷ ls) none = None
joined (l ∷ ls) (more t ts) = option_map (in_front l t) (joined ls ts)

abbrev pub row_in : Typ → Option (List (Label × Typ))
row_in (var v) = None
row_in (con arrow ts) = None
row_in (con (labels ls) ts) = joined ls ts
row_in (con (name n) ts) = None

abbrev pub on_row : Option (List (Label × Typ)) → (List (Label × Typ) → Bool) → Bool
on_row None go = false
on_row (Some r) go = go r

-- the argument of a constructor, if a datatype at these types has it: there may be none
abbrev pub row_argument : TyName → List Typ → Option Constructor → Option (Option Typ)
row_argument y ts None = None
row_argument y ts (Some k) = if same_name k.datatype y then Some (argument_at ts k.argument) else None

abbrev pub argument_of : List Constructor → ℕ → Typ → Option (Option Typ)
argument_of table c (var v) = None
argument_of table c (con arrow ts) = None
argument_of table c (con (labels ls) ts) = None
argument_of table c (con (name y) ts) = row_argument y (list_of ts) (find table y c)

abbrev pub takes : Option Typ → Option (Option Typ) → Bool
takes a None = false
takes a (Some b) = same_option b a

-- that of an exception
abbrev pub known_argument : Option Known → Option (Option Typ)
known_argument None = None
known_argument (Some (of_type t)) = None
known_argument (Some (general qs s t)) = None
known_argument (Some (own t)) = None
known_argument (Some (exception a)) = Some a

abbrev pub exc_argument : Knowns → Exc → Option (Option Typ)
exc_argument G (fixed n) = if nat_lt n 7 then Some None else None
exc_argument G (held x) = known_argument (at G x)

-- types that marks allow
abbrev pub is_of : Class → Typ → Bool
is_of c (var v) = false
is_of c (con arrow ts) = false
is_of c (con (labels ls) ts) = false
is_of c (con (name n) none) = has c n.stamp && same_name n (overloaded n.stamp)
is_of c (con (name n) (more t ts)) = false

abbrev pub allows : Mark → (ℕ → Bool) → Typ → Bool
allows mark.Any m t = true
allows mark.Equality m t = admits m t
allows (mark.Class c) m t = is_of c t

abbrev pub are_allowed : (ℕ → Bool) → List Quantified → List Typ → Bool
are_allowed m [] [] = true
are_allowed m [] (t ∷ ts) = false
are_allowed m (q ∷ qs) [] = false
are_allowed m (q ∷ qs) (t ∷ ts) = allows q.mark m t && are_allowed m qs ts

abbrev pub is_nil : List Typ → Bool
is_nil [] = true
is_nil (t ∷ ts) = false

-- uses, by what is known
abbrev pub is_use : List Quantified → List Typ → Typ → Option Known → Bool
is_use D ts t None = false
is_use D ts t (Some (of_type u)) = is_nil ts && same_type t u
is_use D ts t (Some (general qs s b)) = are_allowed (admits_in D) qs ts && (all_over D (typs_of ts) && same_type t (replace (changed qs ts s) b))
is_use D ts t (Some (own u)) = false
is_use D ts t (Some (exception a)) = false

abbrev pub is_own : Typ → Option Known → Bool
is_own t None = false
is_own t (Some (of_type u)) = false
is_own t (Some (general qs s b)) = false
is_own t (Some (own u)) = same_type t u
is_own t (Some (exception a)) = false

abbrev pub is_con : List Quantified → TyName → List Typ → Typ → Option Constructor → Bool
is_con D y ts t None = false
is_con D y ts t (Some k) =
    same_name k.datatype y && (all_over D (typs_of ts) && same_type t (alone_type (argument_at ts k.argument) (con (name y) (typs_of ts))))

abbrev pub is_exception : Typ → Option (Option Typ) → Bool
is_exception t None = false
is_exception t (Some a) = same_type t (value_type a)

abbrev pub is_prim : List Quantified → BasisPrimitive → List Typ → Typ → Bool
is_prim D p [] t = false
is_prim D p (u ∷ []) t =
    over D u && (allows (prim_type p).mark (admits_in D) u && same_type t (function_type (tuple_type (arguments_at p u)) (result_at p u)))
is_prim D p (u ∷ v ∷ ts) t = false
