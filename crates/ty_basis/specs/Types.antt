-- Types of the initial basis: its type names, each with its number, and the types that are made of them. [Definition 4.1 and Appendix C]
use Rattle.std.specs.Prelude.{ℕ, List, [], ◌∷◌, map, length}
use Rattle.ty_core.specs.of_mlc_names.declared.label.Label.{Label}
use Rattle.ty_core.specs.of_mlc_names.declared.label.Label.TheVariants.{Number}
use Rattle.ty_core.specs.Types.{Typ, con, none, more, typs_of, arrow, labels, name}
use Rattle.ty_core.specs.declared.name.TyName.{TyName}
use Rattle.ty_core.specs.declared.name.Equality.TheVariants.{Always, ByArguments, Never}

abbrev pub int_name : TyName
int_name = record { stamp = 0; arity = 0; equality = Always }

abbrev pub word_name : TyName
word_name = record { stamp = 1; arity = 0; equality = Always }

abbrev pub char_name : TyName
char_name = record { stamp = 2; arity = 0; equality = Always }

abbrev pub string_name : TyName
string_name = record { stamp = 3; arity = 0; equality = Always }

abbrev pub ref_name : TyName
ref_name = record { stamp = 4; arity = 1; equality = Always }

abbrev pub exn_name : TyName
exn_name = record { stamp = 5; arity = 0; equality = Never }

abbrev pub bool_name : TyName
bool_name = record { stamp = 6; arity = 0; equality = ByArguments }

abbrev pub list_name : TyName
list_name = record { stamp = 7; arity = 1; equality = ByArguments }

-- in the order of their numbers
abbrev pub names : List TyName
names = int_name ∷ word_name ∷ char_name ∷ string_name ∷ ref_name ∷ exn_name ∷ bool_name ∷ list_name ∷ []

-- how many they are: the next type name has this number
abbrev pub name_count : ℕ
name_count = length names

abbrev pub of_name : TyName → Typ
of_name n = con (name n) none

abbrev pub int_type : Typ
int_type = of_name int_name

abbrev pub word_type : Typ
word_type = of_name word_name

abbrev pub char_type : Typ
char_type = of_name char_name

abbrev pub string_type : Typ
string_type = of_name string_name

abbrev pub bool_type : Typ
bool_type = of_name bool_name

abbrev pub exn_type : Typ
exn_type = of_name exn_name

abbrev pub ref_type : Typ → Typ
ref_type t = con (name ref_name) (more t none)

abbrev pub list_type : Typ → Typ
list_type t = con (name list_name) (more t none)

abbrev pub function_type : Typ → Typ → Typ
function_type t u = con arrow (more t (more u none))

-- records, with their fields in the order of the labels
abbrev pub Row : Type 0
Row = List (Label × Typ)

abbrev pub labels_in : Row → List Label
labels_in = map (λ f. f.0)

abbrev pub row_type : Row → Typ
row_type fs = con (labels (labels_in fs)) (typs_of (map (λ f. f.1) fs))

abbrev pub unit_type : Typ
unit_type = row_type []

abbrev pub pair_type : Typ → Typ → Typ
pair_type t u = row_type ((Number 1, t) ∷ (Number 2, u) ∷ [])
