-- The arguments of constructors in a declaration of datatypes. [Definition 4.4, 4.9, rules 17, 28 and 29]
use Rattle.std.specs.Prelude.{◌≡◌, ℕ, suc, Bool, List, [], ◌∷◌, ◌++◌, map, length, Option, Some, None, option_map, if◌then◌else◌, ⊤, true}
use Rattle.ty_core.specs.Types.{Typ}
use Rattle.ty_core.specs.declared.name.TyName.{TyName}
use Rattle.ty_core.specs.declared.name.Equality.{Equality}
use Rattle.ty_core.specs.declared.name.Equality.TheVariants.{ByArguments, Never}
use Rattle.ty_core.specs.declared.env.Status.TheVariants.{Constructor}
use Rattle.ty_table.specs.TypeAt.{type_at}
use Rattle.ty_solve.specs.Substitution.{is_below}
use Rattle.sml_tree.specs.declared.ident.Tyvar.{Tyvar}
use Rattle.sml_tree.specs.BareTree.{ConBind, DataBind}
use Rattle.core_rules.specs.Objects.{Context, Map, TypeStructure, Values, types_env, with_env, Over}
use Rattle.core_rules.specs.Elaborated.{any_marks, bare_structures, behind_of, constructed, with_parameters}
use Rattle.ty_core.specs.Statics.{named}
use Rattle.elab_state.specs.Readings.{IsHeldArgument}
use Rattle.datatype_equality.specs.declared.argument.Argument.{Argument}
use Rattle.datatype_equality.specs.Respects.{type_with}

-- the context where each datatype is the type name of its place
abbrev pub in_names : Context → List TyName → List DataBind → Context
in_names c ns bs = with_env c (length bs) (types_env (bare_structures ns bs))

-- the types behind `of`, over these parameters, none where a constructor has no argument
abbrev pub AreBehind : Context → List Tyvar → List ConBind → List (Option Typ) → Type 0
AreBehind c as_ [] [] = ⊤
AreBehind c as_ [] (o ∷ os) = ⊥
AreBehind c as_ (b ∷ bs) [] = ⊥
AreBehind c as_ (b ∷ bs) (o ∷ os) = (behind_of (with_parameters c as_) b.of_ty ≡ Some o) × AreBehind c as_ bs os

-- of each datatype
abbrev pub AreArguments : Context → List DataBind → List (List (Option Typ)) → Type 0
AreArguments c [] [] = ⊤
AreArguments c [] (os ∷ oss) = ⊥
AreArguments c (b ∷ bs) [] = ⊥
AreArguments c (b ∷ bs) (os ∷ oss) = AreBehind c b.tyvars b.cons os × AreArguments c bs oss

-- as numbers of a table
abbrev pub row_at : List Typ → List (Option ℕ) → List (Option Typ)
row_at ts = map (option_map (type_at ts))

abbrev pub rows_at : List Typ → List (List (Option ℕ)) → List (List (Option Typ))
rows_at ts = map (row_at ts)

-- where the new names admit equality as qs says
abbrev pub row_with : ℕ → List Bool → List (Option Typ) → List (Option Typ)
row_with first qs = map (option_map (type_with first qs))

abbrev pub rows_with : ℕ → List Bool → List (List (Option Typ)) → List (List (Option Typ))
rows_with first qs = map (row_with first qs)

abbrev pub OverIf : ℕ → Option Typ → Type 0
OverIf count None = ⊤
OverIf count (Some t) = Over count t

abbrev pub RowOver : ℕ → List (Option Typ) → Type 0
RowOver count [] = ⊤
RowOver count (o ∷ os) = OverIf count o × RowOver count os

-- no type name but the first so many is in them
abbrev pub RowsOver : ℕ → List (List (Option Typ)) → Type 0
RowsOver count [] = ⊤
RowsOver count (os ∷ oss) = RowOver count os × RowsOver count oss

-- the constructors of a type name with these arguments, and the type structures
abbrev pub data_values : List Tyvar → TyName → List ConBind → List (Option Typ) → Values
data_values as_ n [] os = []
data_values as_ n (b ∷ bs) [] = []
data_values as_ n (b ∷ bs) (o ∷ os) =
    (b.vid, record { scheme = record { marks = any_marks as_; body = constructed n o }; status = Constructor }) ∷ data_values as_ n bs os

abbrev pub data_structures : List TyName → List DataBind → List (List (Option Typ)) → Map ℕ TypeStructure
data_structures [] bs oss = []
data_structures (n ∷ ns) [] oss = []
data_structures (n ∷ ns) (b ∷ bs) [] = []
data_structures (n ∷ ns) (b ∷ bs) (os ∷ oss) =
    (b.tycon, record { function = named n; constructors = data_values b.tyvars n b.cons os }) ∷ data_structures ns bs oss

-- each argument with the place of its datatype
abbrev pub row_arguments : ℕ → List (Option ℕ) → List Argument
row_arguments i [] = []
row_arguments i (None ∷ ks) = row_arguments i ks
row_arguments i (Some k ∷ ks) = record { datatype = i; ty = k } ∷ row_arguments i ks

abbrev pub all_arguments : ℕ → List (List (Option ℕ)) → List Argument
all_arguments i [] = []
all_arguments i (ks ∷ kss) = row_arguments i ks ++ all_arguments (suc i) kss

-- their variables are the parameters
abbrev pub BelowIf : ℕ → List Typ → Option ℕ → Type 0
BelowIf n ts None = ⊤
BelowIf n ts (Some k) = is_below n (type_at ts k) ≡ true

abbrev pub RowBelow : ℕ → List Typ → List (Option ℕ) → Type 0
RowBelow n ts [] = ⊤
RowBelow n ts (k ∷ ks) = BelowIf n ts k × RowBelow n ts ks

abbrev pub RowsBelow : List Typ → List DataBind → List (List (Option ℕ)) → Type 0
RowsBelow ts [] kss = ⊤
RowsBelow ts (b ∷ bs) [] = ⊤
RowsBelow ts (b ∷ bs) (ks ∷ kss) = RowBelow (length b.tyvars) ts ks × RowsBelow ts bs kss

-- they are types of a table of n types
abbrev pub RowHeld : ℕ → List (Option ℕ) → Type 0
RowHeld n [] = ⊤
RowHeld n (k ∷ ks) = IsHeldArgument n k × RowHeld n ks

-- a number for each constructor of a datatype, of a type over the parameters, and none where there is no argument
pub record IsRowOf (ts : List Typ) (b : DataBind) (ks : List (Option ℕ)) : Type 0 where
  pub count : length ks ≡ length b.cons
  pub held : RowHeld (length ts) ks
  pub below : RowBelow (length b.tyvars) ts ks

abbrev pub AreRowsOf : List Typ → List DataBind → List (List (Option ℕ)) → Type 0
AreRowsOf ts [] [] = ⊤
AreRowsOf ts [] (ks ∷ kss) = ⊥
AreRowsOf ts (b ∷ bs) [] = ⊥
AreRowsOf ts (b ∷ bs) (ks ∷ kss) = IsRowOf ts b ks × AreRowsOf ts bs kss

-- names that stand for datatypes, each with as many parameters
abbrev pub AreStanding : List TyName → List DataBind → Type 0
AreStanding [] [] = ⊤
AreStanding [] (b ∷ bs) = ⊥
AreStanding (x ∷ xs) [] = ⊥
AreStanding (x ∷ xs) (b ∷ bs) = (x.arity ≡ length b.tyvars) × AreStanding xs bs

-- a new name
abbrev pub attribute_of : Bool → Equality
attribute_of q = if q then ByArguments else Never

abbrev pub name_at : ℕ → Bool → ℕ → TyName
name_at k q a = record { stamp = k; arity = a; equality = attribute_of q }
