-- Types compared.
use Rattle.std.specs.Prelude.{ℕ, Bool, true, false, ◌&&◌, List, [], ◌∷◌, Option, Some, None, nat_eq}
use Rattle.mlc_names.specs.declared.label.Label.{Label}
use Rattle.ty_core.specs.Types.{Symbol, arrow, labels, name, Typ, var, con, Typs, none, more}
use Rattle.ty_core.specs.declared.name.TyName.{TyName}
use Rattle.ty_core.specs.declared.name.Equality.{Equality}
use Rattle.ty_core.specs.declared.name.Equality.TheVariants.{Always, ByArguments, Never}
use Rattle.ir_poly.specs.of_ir_values.Values.{same_label}

abbrev pub equality_number : Equality → ℕ
equality_number Always = 0
equality_number ByArguments = 1
equality_number Never = 2

abbrev pub same_name : TyName → TyName → Bool
same_name n m = nat_eq n.stamp m.stamp && (nat_eq n.arity m.arity && nat_eq (equality_number n.equality) (equality_number m.equality))

abbrev pub same_labels : List Label → List Label → Bool
same_labels [] [] = true
same_labels [] (k ∷ ks) = false
same_labels (l ∷ ls) [] = false
same_labels (l ∷ ls) (k ∷ ks) = same_label l k && same_labels ls ks

abbrev pub same_symbol : Symbol → Symbol → Bool
same_symbol arrow arrow = true
same_symbol arrow (labels ks) = false
same_symbol arrow (name m) = false
same_symbol (labels ls) arrow = false
same_symbol (labels ls) (labels ks) = same_labels ls ks
same_symbol (labels ls) (name m) = false
same_symbol (name n) arrow = false
same_symbol (name n) (labels ks) = false
same_symbol (name n) (name m) = same_name n m

abbrev mutual
  pub same_type : Typ → Typ → Bool
  same_type (var v) (var w) = nat_eq v w
  same_type (var v) (con k us) = false
  same_type (con h ts) (var w) = false
  same_type (con h ts) (con k us) = same_symbol h k && same_types ts us

  pub same_types : Typs → Typs → Bool
  same_types none none = true
  same_types none (more u us) = false
  same_types (more t ts) none = false
  same_types (more t ts) (more u us) = same_type t u && same_types ts us

abbrev pub same_option : Option Typ → Option Typ → Bool
same_option None None = true
same_option None (Some u) = false
same_option (Some t) None = false
same_option (Some t) (Some u) = same_type t u
