-- Types, and which of them admit equality (section 4.1 and 4.4 of the Definition).
use Rattle.std.specs.Prelude.{ℕ, ◌+◌, suc, Bool, true, false, ◌&&◌, List, [], ◌∷◌}
use Rattle.mlc_names.specs.declared.label.Label.{Label}
use Rattle.ty_core.specs.declared.name.TyName.{TyName}
use Rattle.ty_core.specs.declared.name.Equality.{Equality}
use Rattle.ty_core.specs.declared.name.Equality.TheVariants.{Always, ByArguments, Never}

-- what a type that is no variable begins with: the arrow, a record's labels, or a type name
pub data Symbol : Type 0 where
  arrow : Symbol
  labels : List Label → Symbol
  name : TyName → Symbol

-- a type is a variable, or a symbol with its arguments
mutual
  pub data Typ : Type 0 where
    var : ℕ → Typ
    con : Symbol → Typs → Typ

  pub data Typs : Type 0 where
    none : Typs
    more : Typ → Typs → Typs

abbrev pub typs_of : List Typ → Typs
typs_of [] = none
typs_of (t ∷ ts) = more t (typs_of ts)

-- functions never admit equality, records where their fields do, others as their type name says
abbrev pub attribute : Symbol → Equality
attribute arrow = Never
attribute (labels ls) = ByArguments
attribute (name n) = n.equality

abbrev pub allowed : Equality → Bool → Bool
allowed Always b = true
allowed ByArguments b = b
allowed Never b = false

-- a type admits equality, where m says which variables do
abbrev mutual
  pub admits : (ℕ → Bool) → Typ → Bool
  admits m (var v) = m v
  admits m (con h ts) = allowed (attribute h) (all_admit m ts)

  pub all_admit : (ℕ → Bool) → Typs → Bool
  all_admit m none = true
  all_admit m (more t ts) = admits m t && all_admit m ts

abbrev pub no_variable : ℕ → Bool
no_variable v = false

-- how many nodes a type has, written out as a tree
abbrev mutual
  pub nodes : Typ → ℕ
  nodes (var v) = 1
  nodes (con h ts) = suc (all_nodes ts)

  pub all_nodes : Typs → ℕ
  all_nodes none = 0
  all_nodes (more t ts) = nodes t + all_nodes ts
