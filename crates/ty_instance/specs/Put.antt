-- Types put for some variables.
use Rattle.std.specs.Prelude.{◌≡◌, ◌<◌, ℕ, List, [], ◌∷◌, Option, Some, None, nat_eq, unwrap_or, if◌then◌else◌}
use Rattle.std.specs.Option.{option_map}
use Rattle.ty_solve.specs.of_ty_core.Types.{Typ, var}
use Rattle.ty_solve.specs.of_ty_table.TypeAt.{type_at}

-- the types put for the variables, each variable's first; other variables are as they were
abbrev pub put_for : List ℕ → List Typ → ℕ → Typ
put_for [] ts v = var v
put_for (p ∷ ps) [] v = var v
put_for (p ∷ ps) (t ∷ ts) v = if nat_eq p v then t else put_for ps ts v

-- the first image that is given for a variable
abbrev pub first_at : List ℕ → List ℕ → ℕ → Option ℕ
first_at [] ks v = None
first_at (p ∷ ps) [] v = None
first_at (p ∷ ps) (k ∷ ks) v = if nat_eq p v then Some k else first_at ps ks v

-- what a variable becomes, where images says which type is put for it
abbrev pub put_at : List Typ → (ℕ → Option ℕ) → ℕ → Typ
put_at ts images v = unwrap_or (option_map (type_at ts) (images v)) (var v)

-- the table has the images
abbrev pub AreHeld : ℕ → (ℕ → Option ℕ) → Type 0
AreHeld n images = (v k : ℕ) → images v ≡ Some k → k < n
