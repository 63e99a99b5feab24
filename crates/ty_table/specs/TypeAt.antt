-- The types that numbers stand for.
use Rattle.std.specs.Prelude.{◌≡◌, ◌<◌, ℕ, suc, max, Bool, true, List, [], ◌∷◌, ◌++◌, map, length, slice_index_or, Contains, ⊤}
use Rattle.ty_core.specs.Types.{Typ, var, con, Typs, none, more, typs_of}
use Rattle.ty_core.specs.TypesOf.{head_of}
use Rattle.ty_table.specs.declared.types.View.{View}
use Rattle.ty_table.specs.declared.types.View.TheVariants.{Var, Apply}

-- the type of a number, where ts are the types of a table; a number that no table gave out reads as the variable 0
abbrev pub type_at : List Typ → ℕ → Typ
type_at ts k = slice_index_or ts k (var 0)

abbrev pub types_at : List Typ → List ℕ → Typs
types_at ts ks = typs_of (map (type_at ts) ks)

abbrev pub AllBelow : ℕ → List ℕ → Type 0
AllBelow n [] = ⊤
AllBelow n (k ∷ ks) = (k < n) × AllBelow n ks

-- what is seen of the type t is so
abbrev pub IsView : List Typ → Typ → View → Type 0
IsView ts t (Var v) = t ≡ var v
IsView ts t (Apply h ks) = (t ≡ con (head_of h.now) (types_at ts ks.now)) × AllBelow (length ts) ks.now

-- new is old with the type t, which goes last if it is new
pub record IsWith (old : List Typ) (t : Typ) (new : List Typ) : Type 0 where
  pub known : Contains old t → new ≡ old
  pub added : (Contains old t → ⊥) → new ≡ old ++ t ∷ []

-- the same symbol with other parts
abbrev pub with_parts : Typ → Typs → Typ
with_parts (var v) us = var v
with_parts (con h ts) us = con h us

-- all variables admit equality
abbrev pub every_variable : ℕ → Bool
every_variable v = true

-- one more than the highest variable of a type, or 0 where it has none
abbrev mutual
  pub top : Typ → ℕ
  top (var v) = suc v
  top (con h ts) = tops ts

  pub tops : Typs → ℕ
  tops none = 0
  tops (more t ts) = max (top t) (tops ts)
