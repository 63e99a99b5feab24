-- How the code gathers the types that equality needs, by their numbers.
use Rattle.std.specs.Prelude.{◌≡◌, ◌<◌, ◌⊎◌, ℕ, List, [], ◌∷◌, ◌++◌, map, length, take, slice_get, Option, Some, None, get_or, if◌then◌else◌, Bool, false, nat_eq}
use Rattle.std.specs.List.{list_any}
use Rattle.indexmap.specs.IndexSet.{insert_key}
use Rattle.ty_core.specs.Types.{Typ}
use Rattle.ty_core.specs.Statics.{replace}
use Rattle.ty_core.specs.declared.name.TyName.{TyName}
use Rattle.ty_table.specs.TypeAt.{type_at, AllBelow}
use Rattle.ir_poly.specs.Types as clean
use Rattle.ir_poly.specs.Types.{find}
use Rattle.ir_tables.specs.declared.constructors.Constructor.{Constructor}
use Rattle.monomorphise.specs.Monomorphise.{same_name}
use Rattle.monomorphise.specs.Expansion.{IsOneOf, IsNeeded, AreDifferent}
use Rattle.mono_needed.specs.Gathered.{NeedsAtOnce}

abbrev pub Has : List ℕ → ℕ → Type 0
Has [] k = ⊥
Has (x ∷ l) k = (k ≡ x) ⊎ Has l k

-- one of the numbers is that of the type
pub record At (us : List Typ) (ks : List ℕ) (t : Typ) : Type 0 where
  pub number : ℕ
  pub among : Has ks number
  pub is : type_at us number ≡ t

-- the row i is of the datatype with this stamp
pub record IsOf (rows : List Constructor) (stamp i : ℕ) : Type 0 where
  pub row : Constructor
  pub at : slice_get rows i ≡ Some row
  pub same : row.datatype.stamp ≡ stamp

-- the last of the first n rows that is of this datatype
pub data IsLatest (rows : List Constructor) (n stamp : ℕ) : Option ℕ → Type 0 where
  none_is : ((j : ℕ) → j < n → IsOf rows stamp j → ⊥) → IsLatest rows n stamp None
  one_is : (i : ℕ) → i < n → IsOf rows stamp i → ((j : ℕ) → i < j → j < n → IsOf rows stamp j → ⊥) → IsLatest rows n stamp (Some i)

-- each datatype has its last row, and each row the one of its datatype before it
pub record IsChained (rows : List Constructor) (last : ℕ → Option ℕ) (before : List (Option ℕ)) : Type 0 where
  pub last_is : (stamp : ℕ) → IsLatest rows (length rows) stamp (last stamp)
  pub before_is : (i stamp : ℕ) → IsOf rows stamp i → IsLatest rows i stamp (get_or before i None)

-- the argument of a constructor that was found, if it is of the datatype
abbrev pub own_argument : TyName → Option clean.Constructor → Option Typ
own_argument y None = None
own_argument y (Some k) = if same_name k.datatype y then k.argument else None

-- the argument's number is pushed, if there is one
pub data IsPushed (ws : List Typ) (s : ℕ → Typ) (old new : List ℕ) : Option Typ → Type 0 where
  nothing : new ≡ old → IsPushed ws s old new None
  its_number : (a : Typ) (n : ℕ) → slice_get ws n ≡ Some (replace s a) → new ≡ old ++ n ∷ [] → IsPushed ws s old new (Some a)

-- the arguments of the datatype's constructors are pushed, with s put for its parameters
pub record OpensArguments (constructors : List clean.Constructor) (y : TyName) (s : ℕ → Typ) (ws : List Typ) (old new : List ℕ) : Type 0 where
  pub numbers : List ℕ
  pub is : new ≡ old ++ numbers
  pub below : AllBelow (length ws) numbers
  pub sound : (k : ℕ) → Has numbers k → (c : ℕ) × (a : Typ) × (own_argument y (find constructors y c) ≡ Some a) × (type_at ws k ≡ replace s a)
  pub complete : (c : ℕ) (a : Typ) → own_argument y (find constructors y c) ≡ Some a → At ws numbers (replace s a)

-- what equality at t needs at once is pushed
pub record Opens (constructors : List clean.Constructor) (t : Typ) (ws : List Typ) (old new : List ℕ) : Type 0 where
  pub numbers : List ℕ
  pub is : new ≡ old ++ numbers
  pub below : AllBelow (length ws) numbers
  pub sound : (k : ℕ) → Has numbers k → NeedsAtOnce constructors t (type_at ws k)
  pub complete : (u : Typ) → NeedsAtOnce constructors t u → At ws numbers u

-- the mark of each number says whether it is there
abbrev pub AreMarked : List ℕ → List Bool → Type 0
AreMarked ks marks = (k : ℕ) → get_or marks k false ≡ list_any (nat_eq k) ks

-- further numbers are put there, those that are new
abbrev pub added : List ℕ → List ℕ → List ℕ
added ks [] = ks
added ks (x ∷ xs) = added (insert_key nat_eq ks x) xs

-- the numbers ks are of types that are needed, each once
pub record AreGathered (constructors : List clean.Constructor) (roots us : List Typ) (ks : List ℕ) : Type 0 where
  pub below : AllBelow (length us) ks
  pub apart : AreDifferent (map (type_at us) ks)
  pub there : (k : ℕ) → Has ks k → IsNeeded constructors roots (type_at us k)

-- the roots are there, and what the first n need at once
pub record Gathers (constructors : List clean.Constructor) (roots us : List Typ) (ks : List ℕ) (n : ℕ) : Type 0 where
  pub gathered : AreGathered constructors roots us ks
  pub roots_are : (t : Typ) → IsOneOf t roots → At us ks t
  pub parts_are : (k : ℕ) (u : Typ) → Has (take n ks) k → NeedsAtOnce constructors (type_at us k) u → At us ks u
