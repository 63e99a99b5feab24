-- What is looked at next in a type.
use Rattle.std.specs.Prelude.{◌≡◌, ◌⊎◌, ℕ, Bool, List, [], ◌∷◌, ◌++◌}
use Rattle.mlc_names.specs.declared.label.Label.{Label}
use Rattle.ty_table.specs.of_ty_core.Types.{Typ, var, con, Symbol}
use Rattle.ty_table.specs.TypeAt.{type_at, types_at}
use Rattle.ty_solve.specs.Substitution.{Entry, free, bound, row, mark}

-- k stands in a list
abbrev pub Has : List ℕ → ℕ → Type 0
Has [] k = ⊥
Has (x ∷ l) k = (k ≡ x) ⊎ Has l k

-- the numbers ks are what the type of t stands for, or its arguments
pub data Next (ts : List Typ) (s : ℕ → Entry) (t : ℕ) (ks : List ℕ) : Type 0 where
  fields : (x : ℕ) (e : Bool) (ls : List Label) → type_at ts t ≡ var x → s x ≡ row e ls (types_at ts ks) → Next ts s t ks
  ends : (x : ℕ) → type_at ts t ≡ var x → s x ≡ free (mark (s x)) → ks ≡ [] → Next ts s t ks
  stands : (x u : ℕ) → type_at ts t ≡ var x → s x ≡ bound (type_at ts u) → ks ≡ u ∷ [] → Next ts s t ks
  applied : (h : Symbol) → type_at ts t ≡ con h (types_at ts ks) → Next ts s t ks

-- the types of the fields of x, if it is a row, are put on
pub data LooksInRow (ts : List Typ) (s : ℕ → Entry) (x : ℕ) (old new : List ℕ) : Type 0 where
  fields : (e : Bool) (ls : List Label) (ks : List ℕ) → s x ≡ row e ls (types_at ts ks) → new ≡ old ++ ks → LooksInRow ts s x old new
  ends : s x ≡ free (mark (s x)) → new ≡ old → LooksInRow ts s x old new

-- what x stands for, or the types of its fields, are put on
pub data LooksUnder (ts : List Typ) (s : ℕ → Entry) (x : ℕ) (old new : List ℕ) : Type 0 where
  stands : (u : ℕ) → s x ≡ bound (type_at ts u) → new ≡ old ++ u ∷ [] → LooksUnder ts s x old new
  others : LooksInRow ts s x old new → LooksUnder ts s x old new

pub record Looks (ts : List Typ) (s : ℕ → Entry) (t : ℕ) (old new : List ℕ) : Type 0 where
  pub parts : List ℕ
  pub is : new ≡ old ++ parts
  pub next : Next ts s t parts
