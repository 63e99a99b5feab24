-- Bounds of the type names that stand in types in the end.
use Rattle.std.specs.Prelude.{ℕ, max, List, [], ◌∷◌, Option, Some, None, slice_get, unwrap_or, ⊤}
use Rattle.ty_core.specs.Types.{Typ}
use Rattle.ty_table.specs.TypeAt.{type_at}
use Rattle.ty_solve.specs.Substitution.{sub}
use Rattle.ty_solve.specs.declared.solver.Solver.{Solver}
use Rattle.core_rules.specs.Objects.{Over}
use Rattle.final_types.specs.Nodes.{IsEnd, types_of}

-- the bound of a type by its number, none where none is known
abbrev pub bound_in : List (Option ℕ) → ℕ → Option ℕ
bound_in bs k = unwrap_or (slice_get bs k) None

abbrev pub wider_of : Option ℕ → Option ℕ → Option ℕ
wider_of None o = None
wider_of (Some a) None = None
wider_of (Some a) (Some b) = Some (max a b)

-- of types by their numbers, and at least o
abbrev pub widest : List (Option ℕ) → Option ℕ → List ℕ → Option ℕ
widest bs o [] = o
widest bs o (k ∷ ks) = widest bs (wider_of o (bound_in bs k)) ks

-- the names of a type are below its bound
abbrev pub IsBound : Option ℕ → Typ → Type 0
IsBound None t = ⊤
IsBound (Some b) t = Over b t

abbrev pub IsBoundOf : Solver → ℕ → Option ℕ → Type 0
IsBoundOf M k o = (g : ℕ → Typ) → IsEnd M g → IsBound o (sub g (type_at (types_of M) k))

abbrev pub AreBounds : Solver → List (Option ℕ) → Type 0
AreBounds M bs = (k : ℕ) → IsBoundOf M k (bound_in bs k)
