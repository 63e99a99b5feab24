-- What variables stand for in an instance, and under a substitution.
use Rattle.std.specs.Prelude.{◌≡◌, ◌-◌, ℕ, List, length, nat_lt, slice_index_or, if◌then◌else◌}
use Rattle.ty_solve.specs.of_ty_core.Types.{Typ, var}
use Rattle.ty_solve.specs.of_ty_core.declared.mark.Mark.{Mark}
use Rattle.ty_solve.specs.of_ty_table.TypeAt.{type_at}
use Rattle.ty_solve.specs.Substitution.{Entry, free, bound, row, sub}

-- a variable of a scheme's body: the first ones are its parameters and stand for the types of their images, the others are free and counted from there
abbrev pub image_at : List Typ → List ℕ → ℕ → Typ
image_at ts images v = if nat_lt v (length images) then type_at ts (slice_index_or images v 0) else var (v - length images)

-- nothing is said of a variable
abbrev pub nothing : ℕ → Entry
nothing v = free Mark.Any

-- an open variable stands for itself, a bound one for what its type stands for
abbrev pub value_of : (ℕ → Typ) → ℕ → Entry → Typ
value_of f v (free k) = var v
value_of f v (bound t) = sub f t
value_of f v (row e ks us) = var v

-- f says what each variable stands for in the end
abbrev pub Ends : (ℕ → Typ) → (ℕ → Entry) → Type 0
Ends f s = (v : ℕ) → f v ≡ value_of f v (s v)

-- u is t under the substitution
pub record IsResolved (s : ℕ → Entry) (t u : Typ) : Type 0 where
  pub values : ℕ → Typ
  pub ends : Ends values s
  pub is : u ≡ sub values t
