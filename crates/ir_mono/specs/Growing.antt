-- What a table may be given, and stays a table: a type that isn't there yet, and a constructor of a datatype that is there.
use Rattle.std.specs.Prelude.{◌≡◌, ℕ, true, List, [], ◌∷◌, ◌++◌, length, Option, Some, None, nat_eq, nat_lt, slice_get, slice_set}
use Rattle.std.specs.Map.{lookup}
use Rattle.ir_poly.specs.of_mlc_names.declared.label.Label.{Label}
use Rattle.ir_poly.specs.of_ty_core.Types.{labels, name, Typ}
use Rattle.ir_poly.specs.of_ty_core.declared.name.TyName.{TyName}
use Rattle.ir_poly.specs.Types.{exn_name}
use Rattle.ir_mono.specs.Types.{Row, Node, node, node_at, constructor_at, admits, AllAdmit, Stands, IsTable}

-- a type of which two values can be compared, as long as it has no constructors with arguments that can't
pub data MayCompare (types : List Row) : Node → Type 0 where
  records_may : {ls : List Label} {ps : List ℕ} → AllAdmit types ps → MayCompare types (node (labels ls) ps)
  names_may : {y : TyName} {ps : List ℕ} → (y ≡ exn_name → ⊥) → MayCompare types (node (name y) ps)

-- it isn't there yet, and has no constructors so far
pub record IsNewRow (types : List Row) (r : Row) : Type 0 where
  pub new : (n : ℕ) → node_at types n ≡ Some r.type → ⊥
  pub none : r.constructors ≡ []
  pub comparable : r.equality ≡ true → MayCompare types r.type

-- a constructor that the datatype doesn't have yet; its argument admits equality where the datatype does
pub record IsNewConstructor (types : List Row) (n : ℕ) (r : Row) (c : ℕ) (a : Option ℕ) : Type 0 where
  pub there : slice_get types n ≡ Some r
  pub datatype : (y : TyName) × (ps : List ℕ) × (r.type ≡ node (name y) ps) × (nat_lt 5 y.stamp ≡ true)
  pub new : lookup (nat_eq c) r.constructors ≡ None
  pub argument : (b : ℕ) → a ≡ Some b → admits types n ≡ true → admits types b ≡ true

abbrev pub with_constructor : Row → ℕ → Option ℕ → Row
with_constructor r c a = record { type = r.type; constructors = (c, a) ∷ r.constructors; equality = r.equality }

-- the type has the next number, and types that were there keep theirs
abbrev pub TypesArePushed : Type 0
TypesArePushed =
    (types : List Row) (r : Row) → IsTable types → IsNewRow types r → IsTable (types ++ r ∷ []) × (node_at (types ++ r ∷ []) (length types) ≡ Some r.type)

abbrev pub TypesStay : Type 0
TypesStay = (types more : List Row) (s : ℕ → ℕ) (n : ℕ) (t : Typ) → Stands types s n t → Stands (types ++ more) s n t

abbrev pub ConstructorsAreAdded : Type 0
ConstructorsAreAdded =
    (types : List Row) (n : ℕ) (r : Row) (c : ℕ) (a : Option ℕ) → IsTable types → IsNewConstructor types n r c a
    → IsTable (slice_set types n (with_constructor r c a)) × (constructor_at (slice_set types n (with_constructor r c a)) n c ≡ Some a)
    × ((i : ℕ) → node_at (slice_set types n (with_constructor r c a)) i ≡ node_at types i)
