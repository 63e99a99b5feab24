-- What the answer for a type rests on: a graph whose vertices are the new names, in order, and then the types that are asked.
use Rattle.std.specs.Prelude.{◌≡◌, ◌<◌, ◌≤◌, ◌+◌, ◌-◌, ◌++◌, ℕ, suc, Bool, true, false, not, List, [], ◌∷◌, length, replicate, Option, Some, None, if◌then◌else◌, nat_lt, slice_get, slice_index_or, slice_set, Contains, ◌⊎◌, ⊤}
use Rattle.ty_core.specs.Types.{Symbol, arrow, labels, name, Typ, var, con, admits, attribute}
use Rattle.ty_core.specs.declared.name.Equality.{Equality}
use Rattle.ty_core.specs.declared.name.Equality.TheVariants.{Always, ByArguments, Never}
use Rattle.ty_table.specs.TypeAt.{type_at, types_at}
use Rattle.datatype_equality.specs.declared.argument.Argument.{Argument}
use Rattle.datatype_equality.specs.declared.graph.Rule.{Rule}
use Rattle.datatype_equality.specs.declared.graph.Rule.TheVariants.{Admits, Refuses, Parts, New}
use Rattle.datatype_equality.specs.Falling.{resting, Spreads}
use Rattle.datatype_equality.specs.Respects.{type_with, every_parameter, Respects}

-- asked: the types that are vertices, by their numbers; edges: what rests on each vertex; fails: what doesn't admit equality by itself
pub record Graph : Type 0 where
  pub asked : List ℕ
  pub edges : List (List ℕ)
  pub fails : List ℕ

abbrev pub only_names : ℕ → Graph
only_names count = record { asked = []; edges = replicate count []; fails = [] }

abbrev pub with_fail : ℕ → Graph → Graph
with_fail v G = record { asked = G.asked; edges = G.edges; fails = G.fails ++ v ∷ [] }

abbrev pub rule_by : Equality → Rule
rule_by Always = Admits
rule_by ByArguments = Parts
rule_by Never = Refuses

-- what a symbol makes of the question, where so many new names have the stamps first, first + 1, ..
abbrev pub rule_of : ℕ → ℕ → Symbol → Rule
rule_of first count arrow = Refuses
rule_of first count (labels ls) = Parts
rule_of first count (name n) =
    if nat_lt n.stamp first then rule_by n.equality else if nat_lt (n.stamp - first) count then New (n.stamp - first) else rule_by n.equality

-- The graph with a vertex for the type k, which is v. A new vertex has nothing that rests on it, and k goes to the types that are pending.
pub record HasVertex (count k : ℕ) (old new : Graph) (pending after : List ℕ) (v : ℕ) : Type 0 where
  pub extra : List ℕ
  pub known_or_new : (extra ≡ []) ⊎ ((extra ≡ k ∷ []) × ((i : ℕ) → slice_get old.asked i ≡ Some k → ⊥))
  pub asked : new.asked ≡ old.asked ++ extra
  pub size : length new.edges ≡ length old.edges + length extra
  pub same_edges : (x : ℕ) → resting new.edges x ≡ resting old.edges x
  pub same_fails : new.fails ≡ old.fails
  pub pushed : after ≡ pending ++ extra
  pub position : ℕ
  pub is : v ≡ count + position
  pub there : slice_get new.asked position ≡ Some k

-- the graph where w rests on v too
pub record HasEdge (v w : ℕ) (old new : Graph) : Type 0 where
  pub asked : new.asked ≡ old.asked
  pub edges : new.edges ≡ slice_set old.edges v (resting old.edges v ++ w ∷ [])
  pub fails : new.fails ≡ old.fails

-- Where a type is asked.

module _ (ts : List Typ) (first count : ℕ) (G : Graph) where
  -- v rests on the types with these numbers
  abbrev pub RestsOn : List ℕ → ℕ → Type 0
  RestsOn parts v = (m : ℕ) → Contains parts m → (p : ℕ) × (slice_get G.asked p ≡ Some m) × Contains (resting G.edges (count + p)) v

  abbrev pub IsRuled : Rule → List ℕ → ℕ → Type 0
  IsRuled Admits parts v = ⊤
  IsRuled Refuses parts v = Contains G.fails v
  IsRuled Parts parts v = RestsOn parts v
  IsRuled (New j) parts v = Contains (resting G.edges j) v × RestsOn parts v

  -- all that the type k rests on is there
  pub data IsOpen (k v : ℕ) : Type 0 where
    is_variable : {x : ℕ} → type_at ts k ≡ var x → IsOpen k v
    is_ruled : {h : Symbol} (parts : List ℕ) → type_at ts k ≡ con h (types_at ts parts) → IsRuled (rule_of first count h) parts v → IsOpen k v
