-- How a table keeps its types.
use Rattle.std.specs.Prelude.{◌≡◌, ◌≢◌, ◌<◌, ◌^◌, ◌-◌, min, ℕ, zero, suc, List, [], ◌∷◌, ◌++◌, map, length, slice_index_or, AllPairs, ⊤}
use Rattle.ty_core.specs.Types.{Symbol, arrow, Typ, var, con, nodes, admits, no_variable}
use Rattle.ty_table.specs.TypeAt.{types_at, AllBelow, every_variable, top}
use Rattle.ty_table.specs.Codes.{code_of}
use Rattle.ty_table.specs.Variables.{few_of}
use Rattle.ty_table.specs.declared.facts.Facts.{Facts}

-- the symbols, and the nodes
abbrev pub Table : Type 0
Table = List Symbol × List (List ℕ)

abbrev pub symbol_at : List Symbol → ℕ → Symbol
symbol_at ss k = slice_index_or ss k arrow

-- a node is a list of numbers: 0 and a variable, or one more than a symbol's number and the parts
abbrev pub type_in : List Symbol → List Typ → List ℕ → Typ
type_in ss ts [] = var 0
type_in ss ts (zero ∷ []) = var 0
type_in ss ts (zero ∷ v ∷ l) = var v
type_in ss ts (suc s ∷ l) = con (symbol_at ss s) (types_at ts l)

-- ts, and the types of further nodes, each over those before it
abbrev pub built : List Symbol → List Typ → List (List ℕ) → List Typ
built ss ts [] = ts
built ss ts (x ∷ l) = built ss (ts ++ type_in ss ts x ∷ []) l

-- the types that the numbers of a table stand for
abbrev pub types_of : Table → List Typ
types_of t = built t.0 [] t.1

-- a node with the symbols below m, and the numbers below n for its parts
abbrev pub IsNode : ℕ → ℕ → List ℕ → Type 0
IsNode m n [] = ⊥
IsNode m n (zero ∷ l) = length l ≡ 1
IsNode m n (suc s ∷ l) = (s < m) × AllBelow n l

abbrev pub InOrder : ℕ → ℕ → List (List ℕ) → Type 0
InOrder m n [] = ⊤
InOrder m n (x ∷ l) = IsNode m n x × InOrder m (suc n) l

abbrev pub facts_of : Typ → Facts
facts_of t = record { size = min (nodes t) (2 ^ 64 - 1); equality = admits no_variable t; everywhere = admits every_variable t; top = top t; few = few_of t }

-- each node has earlier parts, its facts are kept, and no symbol and no type is there twice
pub record IsTable (t : Table) (codes : List (List ℕ)) (fs : List Facts) : Type 0 where
  pub in_order : InOrder (length t.0) 0 t.1
  pub known : fs ≡ map facts_of (types_of t)
  pub coded : codes ≡ map code_of t.0
  pub symbols_once : AllPairs (λ s u. s ≢ u) t.0
  pub types_once : AllPairs (λ u v. u ≢ v) (types_of t)
