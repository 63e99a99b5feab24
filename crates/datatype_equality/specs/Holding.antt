-- What holds while types are asked.
use Rattle.std.specs.Prelude.{◌≡◌, ◌<◌, ◌≤◌, ◌+◌, ◌-◌, ◌++◌, ℕ, suc, Bool, true, false, not, List, [], ◌∷◌, length, Option, Some, None, if◌then◌else◌, nat_lt, slice_get, slice_index_or, Contains, ◌⊎◌}
use Rattle.ty_core.specs.Types.{Typ, admits, nodes}
use Rattle.ty_table.specs.TypeAt.{type_at}
use Rattle.datatype_equality.specs.declared.argument.Argument.{Argument}
use Rattle.datatype_equality.specs.Falling.{resting, Spreads}
use Rattle.datatype_equality.specs.Respects.{type_with, every_parameter, Respects}
use Rattle.datatype_equality.specs.Graph.{Graph, RestsOn, IsOpen}

-- a graph that has all that another has
pub record IsMore (G H : Graph) : Type 0 where
  pub asked : (i k : ℕ) → slice_get G.asked i ≡ Some k → slice_get H.asked i ≡ Some k
  pub edges : (v w : ℕ) → Contains (resting G.edges v) w → Contains (resting H.edges v) w
  pub fails : (w : ℕ) → Contains G.fails w → Contains H.fails w

-- the nodes of these types, written out
abbrev pub total : List Typ → List ℕ → ℕ
total ts [] = 0
total ts (k ∷ ks) = nodes (type_at ts k) + total ts ks

module _ (ts : List Typ) (first count : ℕ) where
  -- whether the type k admits equality, where the new names do so as qs says
  abbrev pub type_good : List Bool → ℕ → Bool
  type_good qs k = admits every_parameter (type_with first qs (type_at ts k))

  -- the same of a vertex
  abbrev pub good : List ℕ → List Bool → ℕ → Bool
  good asked qs v = if nat_lt v count then slice_index_or qs v false else type_good qs (slice_index_or asked (v - count) 0)

  -- All edges are right, whatever the new names may be, and each type that is there is open or pending.
  pub record Holds (arguments : List Argument) (G : Graph) (done : List Argument) (pending : List ℕ) : Type 0 where
    pub size : length G.edges ≡ count + length G.asked
    pub once : (i j k : ℕ) → slice_get G.asked i ≡ Some k → slice_get G.asked j ≡ Some k → i ≡ j
    pub targets : (v w : ℕ) → Contains (resting G.edges v) w → w < length G.edges
    pub failing : (w : ℕ) → Contains G.fails w → w < length G.edges
    pub right : (qs : List Bool) → length qs ≡ count → Respects first ts arguments qs → Spreads G.edges G.fails (λ v. not (good G.asked qs v))
    pub opened : (i k : ℕ) → slice_get G.asked i ≡ Some k → IsOpen ts first count G k (count + i) ⊎ Contains pending k
    pub waiting : (k : ℕ) → Contains pending k → (i : ℕ) × (slice_get G.asked i ≡ Some k)
    pub argued : (a : Argument) → Contains done a
        → (a.datatype < count) × ((p : ℕ) × (slice_get G.asked p ≡ Some a.ty) × Contains (resting G.edges (count + p)) a.datatype)

  -- v comes to rest on these types, which is right where it isn't good unless they are
  pub record Rested (old new : Graph) (parts : List ℕ) (v : ℕ) (pending after : List ℕ) : Type 0 where
    pub size : length new.edges ≡ count + length new.asked
    pub longer : length old.edges ≤ length new.edges
    pub extra : List ℕ
    pub asked : new.asked ≡ old.asked ++ extra
    pub more : IsMore old new
    pub rests : RestsOn ts first count new parts v
    pub holds : (arguments done : List Argument) (front : List ℕ) → v < length old.edges
        → ((qs : List Bool) (m : ℕ) → length qs ≡ count → Respects first ts arguments qs → Contains parts m → type_good qs m ≡ false
        → good old.asked qs v ≡ false)
        → Holds arguments old done (front ++ pending) → Holds arguments new done (front ++ after)
    pub lighter : total ts after ≤ total ts pending + total ts parts

  -- the type k, which was pending, is open
  pub record Opens (k : ℕ) (old new : Graph) (pending after : List ℕ) : Type 0 where
    pub size : length new.edges ≡ count + length new.asked
    pub holds : (arguments done : List Argument) → Holds arguments old done (k ∷ pending) → Holds arguments new done after
    pub lighter : (arguments done : List Argument) → Holds arguments old done (k ∷ pending) → total ts after < total ts (k ∷ pending)

  -- an argument is there, and its datatype rests on its type
  pub record Argues (a : Argument) (old new : Graph) (pending after : List ℕ) : Type 0 where
    pub size : length new.edges ≡ count + length new.asked
    pub holds : (arguments done : List Argument) → a.datatype < count → Contains arguments a → Holds arguments old done pending
        → Holds arguments new (done ++ a ∷ []) after
