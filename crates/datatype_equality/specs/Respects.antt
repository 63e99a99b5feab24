-- Which of the datatypes that are declared together admit equality (section 4.9 and rule 17 of the Definition).
use Rattle.std.specs.Prelude.{◌≡◌, ◌-◌, ℕ, Bool, true, false, List, [], ◌∷◌, Option, Some, None, if◌then◌else◌, nat_lt, slice_get, Contains, ⊤}
use Rattle.ty_core.specs.Types.{Symbol, arrow, labels, name, Typ, var, con, Typs, none, more, admits}
use Rattle.ty_core.specs.declared.name.TyName.{TyName}
use Rattle.ty_core.specs.declared.name.Equality.{Equality}
use Rattle.ty_core.specs.declared.name.Equality.TheVariants.{ByArguments, Never}
use Rattle.ty_table.specs.TypeAt.{type_at}
use Rattle.datatype_equality.specs.declared.argument.Argument.{Argument}

-- what is said of the name with this stamp, where the new names have the stamps first, first + 1, .., and qs says which of them admit equality
abbrev pub said : ℕ → List Bool → ℕ → Option Bool
said first qs stamp = if nat_lt stamp first then None else slice_get qs (stamp - first)

abbrev pub attribute_by : Equality → Option Bool → Equality
attribute_by e None = e
attribute_by e (Some true) = ByArguments
attribute_by e (Some false) = Never

abbrev pub name_with : ℕ → List Bool → TyName → TyName
name_with first qs n = record { stamp = n.stamp; arity = n.arity; equality = attribute_by n.equality (said first qs n.stamp) }

abbrev pub symbol_with : ℕ → List Bool → Symbol → Symbol
symbol_with first qs arrow = arrow
symbol_with first qs (labels ls) = labels ls
symbol_with first qs (name n) = name (name_with first qs n)

-- the type, where the new names admit equality as qs says
abbrev mutual
  pub type_with : ℕ → List Bool → Typ → Typ
  type_with first qs (var v) = var v
  type_with first qs (con h ts) = con (symbol_with first qs h) (types_with first qs ts)

  pub types_with : ℕ → List Bool → Typs → Typs
  types_with first qs none = none
  types_with first qs (more t ts) = more (type_with first qs t) (types_with first qs ts)

-- variables are the datatypes' parameters
abbrev pub every_parameter : ℕ → Bool
every_parameter v = true

-- a name that admits equality has only constructors whose arguments do, once the parameters do
abbrev pub Respects : ℕ → List Typ → List Argument → List Bool → Type 0
Respects first ts arguments qs =
    (a : Argument) → Contains arguments a → slice_get qs a.datatype ≡ Some true → admits every_parameter (type_with first qs (type_at ts a.ty)) ≡ true

abbrev pub AllBelow : List Bool → List Bool → Type 0
AllBelow (q ∷ qs) (r ∷ rs) = (q ≡ true → r ≡ true) × AllBelow qs rs
AllBelow qs rs = ⊤
