-- What steps of the code put before the rest.
use Rattle.std.specs.Prelude.{◌≡◌, ℕ, List, [], ◌∷◌, map, Option, Some, None}
use Rattle.mlc_base.specs.declared.place.Place.{Place}
use Rattle.first_values.specs.Operations as op
use Rattle.first_values.specs.Values as cells
use Rattle.ir_first.specs.Tree as out
use Rattle.first_tree.specs.declared.tree.Step.{Step}
use Rattle.first_tree.specs.TreeOf.{step_of, onto}
use Rattle.plain_tree.specs.declared.tree.Field.{Field}
use Rattle.closure_meaning.specs.Convert.{Numbering, var}

abbrev pub before : List Step → out.Exp → out.Exp
before ss e = onto (map step_of ss) e

-- before the rest, the new steps put what the old ones put, and then this
abbrev pub Puts : (old new : List Step) → (out.Exp → out.Exp) → Type 0
Puts old new put = (e : out.Exp) → before new e ≡ before old (put e)

-- the one function of a set, if it has one alone
abbrev pub sole_of : List ℕ → Option ℕ
sole_of [] = None
sole_of (k ∷ []) = Some k
sole_of (k ∷ l ∷ ks) = None

-- a call of a function of the set s, whose one member this is, if it has one alone
abbrev pub call_by : Numbering → Option ℕ → Place → (s f a : ℕ) → out.Op
call_by n None p s f a = out.call p (op.one_of s f) (a ∷ [])
call_by n (Some k) p s f a = out.call p (op.known (n.function k)) (f ∷ a ∷ [])

abbrev pub field_pieces : List Field → List cells.Piece
field_pieces = map (λ f. cells.one (var f.atom))
