-- The table that the code keeps, as that of the form.
use Rattle.std.specs.Prelude.{◌≡◌, ◌≢◌, ℕ, Bool, List, [], ◌∷◌, ◌++◌, map, length, slice_get, slice_set, Option, Some, None, AllPairs}
use Rattle.ty_core.specs.TypesOf.{head_of}
use Rattle.ty_core.specs.declared.ty.Head.{Head}
use Rattle.ir_mono.specs.Types.{Row, Node, node, node_at, constructor_at}
use Rattle.ir_mono.specs.Growing.{with_constructor}
use Rattle.mono_types.specs.Codes.{node_code}
use Rattle.mono_types.specs.declared.types.Kept.{Kept}
use Rattle.mono_types.specs.declared.types.View.{View}
use Rattle.mono_types.specs.declared.types.View.TheVariants as view

abbrev pub row_of : Kept → Row
row_of r = record { type = node (head_of r.head) r.parts.items; constructors = r.constructors; equality = r.equality }

abbrev pub rows_of : List Kept → List Row
rows_of = map row_of

-- a type is found by its code, and no two are one
pub record IsStored (rows : List Row) (codes : List (List ℕ)) : Type 0 where
  pub coded : codes ≡ map (λ r. node_code r.type) rows
  pub once : AllPairs (λ c d. c ≢ d) codes

-- each type is there once
abbrev pub AreOnce : List Row → Type 0
AreOnce types = (n m : ℕ) (k : Node) → node_at types n ≡ Some k → node_at types m ≡ Some k → n ≡ m

-- what is seen of a type
abbrev pub seen : View → Option Node
seen view.Nothing = None
seen (view.Apply h ps) = Some (node (head_of h.now) ps.now)

abbrev pub new_row : Node → Bool → Row
new_row k b = record { type = k; constructors = []; equality = b }

-- the type has the number n in new, which is old with it; it goes last if it wasn't there
pub record IsPlaced (old : List Row) (k : Node) (b : Bool) (n : ℕ) (new : List Row) : Type 0 where
  pub held : node_at new n ≡ Some k
  pub known : (m : ℕ) → node_at old m ≡ Some k → new ≡ old
  pub added : ((m : ℕ) → node_at old m ≡ Some k → ⊥) → (new ≡ old ++ new_row k b ∷ []) × (n ≡ length old)

-- new is old with a constructor of the type n, which has it unless it was there
pub record IsEntered (old : List Row) (n c : ℕ) (a : Option ℕ) (new : List Row) : Type 0 where
  pub known : (b : Option ℕ) → constructor_at old n c ≡ Some b → new ≡ old
  pub added : (r : Row) → slice_get old n ≡ Some r → constructor_at old n c ≡ None → new ≡ slice_set old n (with_constructor r c a)
