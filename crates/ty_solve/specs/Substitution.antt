-- Substitutions and their solutions (section 4.2, 4.4 and 4.11 of the Definition).
use Rattle.std.specs.Prelude.{◌≡◌, ℕ, Bool, true, false, ◌&&◌, ◌||◌, nat_lt, nat_eq, if◌then◌else◌, List, ⊤}
use Rattle.mlc_names.specs.declared.label.Label.{Label}
use Rattle.ty_table.specs.of_ty_core.Types.{Typ, var, con, Typs, none, more, labels}
use Rattle.ty_table.specs.of_ty_core.Marks.{Allows}
use Rattle.ty_table.specs.of_ty_core.declared.mark.Mark.{Mark}
use Rattle.ty_solve.specs.Rows.{Extends}

-- f put for the variables of a type
abbrev mutual
  pub sub : (ℕ → Typ) → Typ → Typ
  sub f (var v) = f v
  sub f (con h ts) = con h (subs f ts)

  pub subs : (ℕ → Typ) → Typs → Typs
  subs f none = none
  subs f (more t ts) = more (sub f t) (subs f ts)

-- every variable is below n
abbrev mutual
  pub is_below : ℕ → Typ → Bool
  is_below n (var v) = nat_lt v n
  is_below n (con h ts) = are_below n ts

  pub are_below : ℕ → Typs → Bool
  are_below n none = true
  are_below n (more t ts) = is_below n t && are_below n ts

-- v stands in a type
abbrev mutual
  pub is_in : ℕ → Typ → Bool
  is_in v (var x) = nat_eq x v
  is_in v (con h ts) = are_in v ts

  pub are_in : ℕ → Typs → Bool
  are_in v none = false
  are_in v (more t ts) = is_in v t || are_in v ts

-- what a substitution says of a variable: it is free and has a mark, or it stands for a type, or for a record with
-- these fields and perhaps further ones, which admit equality where the flag is true
pub data Entry : Type 0 where
  free : Mark → Entry
  bound : Typ → Entry
  row : Bool → List Label → Typs → Entry

abbrev pub Meets : (ℕ → Bool) → (ℕ → Typ) → Typ → Entry → Type 0
Meets m f t (free k) = Allows k m t
Meets m f t (bound u) = t ≡ sub f u
Meets m f t (row e ks us) = Extends m e ks (subs f us) t

-- f solves a substitution, where m says which declared variables admit equality: each bound variable has its type's
-- value, each free one a type that its mark allows, each row a record that has its fields
abbrev pub Solves : (ℕ → Bool) → (ℕ → Typ) → (ℕ → Entry) → Type 0
Solves m f s = (v : ℕ) → Meets m f (f v) (s v)

-- f makes bound variables equal to their types, whatever the marks and rows are
abbrev pub FitsAt : (ℕ → Typ) → Typ → Entry → Type 0
FitsAt f t (free k) = ⊤
FitsAt f t (bound u) = t ≡ sub f u
FitsAt f t (row e ks us) = ⊤

abbrev pub Fits : (ℕ → Typ) → (ℕ → Entry) → Type 0
Fits f s = (v : ℕ) → FitsAt f (f v) (s v)

-- f is the substitution as a function that needs no second look, where a row is the record of its known fields
abbrev pub resolved : (ℕ → Typ) → ℕ → Entry → Typ
resolved f v (free k) = var v
resolved f v (bound u) = sub f u
resolved f v (row e ks us) = con (labels ks) (subs f us)

abbrev pub Resolves : (ℕ → Typ) → (ℕ → Entry) → Type 0
Resolves f s = (v : ℕ) → f v ≡ resolved f v (s v)

abbrev pub mark : Entry → Mark
mark (free k) = k
mark (bound t) = Mark.Any
mark (row e ks us) = Mark.Any

-- a variable that stands for no type yet
abbrev pub is_open : Entry → Bool
is_open (free k) = true
is_open (bound t) = false
is_open (row e ks us) = true

-- the substitution that says nothing of v
abbrev pub aside : ℕ → (ℕ → Entry) → ℕ → Entry
aside v s x = if nat_eq x v then free Mark.Any else s x
