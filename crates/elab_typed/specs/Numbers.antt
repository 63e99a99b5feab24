-- Type names of the source by their numbers in the program: the source gives numbers back at the end of a `let`, the program never.
use Rattle.std.specs.Prelude.{◌≡◌, ℕ, true, nat_lt, List, map}
use Rattle.mlc_names.specs.declared.label.Label.{Label}
use Rattle.ty_core.specs.Types.{Symbol, arrow, labels, name, Typ, var, con, Typs, none, more}
use Rattle.ty_core.specs.declared.name.TyName.{TyName}
use Rattle.core_elab.specs.of_ty_basis.Types.{name_count}

module _ (number : ℕ → ℕ) where
  abbrev pub name_as : TyName → TyName
  name_as y = record y { stamp = number y.stamp }

  abbrev pub symbol_as : Symbol → Symbol
  symbol_as arrow = arrow
  symbol_as (labels ls) = labels ls
  symbol_as (name y) = name (name_as y)

  abbrev mutual
    pub type_as : Typ → Typ
    type_as (var v) = var v
    type_as (con h ts) = con (symbol_as h) (types_as ts)

    pub types_as : Typs → Typs
    types_as none = none
    types_as (more t ts) = more (type_as t) (types_as ts)

  abbrev pub row_as : List (Label × Typ) → List (Label × Typ)
  row_as = map (λ f. (f.0, type_as f.1))

-- the names of the initial basis have the same numbers
abbrev pub KeepsInitial : (ℕ → ℕ) → Type 0
KeepsInitial number = (k : ℕ) → nat_lt k name_count ≡ true → number k ≡ k

-- the first so many names have the same numbers in both
abbrev pub AgreeBelow : ℕ → (ℕ → ℕ) → (ℕ → ℕ) → Type 0
AgreeBelow count f g = (k : ℕ) → nat_lt k count ≡ true → g k ≡ f k
