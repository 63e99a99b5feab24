-- What taking no turns does to copies.
use Rattle.std.specs.Prelude.{◌≡◌, ℕ, List, [], ◌∷◌}
use Rattle.ty_core.specs.Types.{Typ}
use Rattle.ty_core.specs.Statics.{replace}
use Rattle.ir_plain.specs.Copies.{strip, strip_op}
use Rattle.ir_plain.specs.Tree.{Exp, let_in, Op, Funs}
use Rattle.ir_plain.specs.Weight.{op_weight}
use Rattle.monomorphise.specs.Expansion.{op_compared}
use Rattle.monomorphise.specs.Monomorphise.{Name, copy_of, Named, others, more_lets, all_lets, all_groups}

-- what takes no turns stays as it is
abbrev pub StripIsOnce : Type 0
StripIsOnce = (o : Op Named) → strip_op (strip_op o) ≡ strip_op o

-- The copies of a binding that take no turns: the first one takes none either, and what follows takes none.
abbrev pub StrippedLets : Type 0
StrippedLets = (u : List Typ) (at : List Typ → ℕ → Typ) (x : ℕ) (t : Typ) (f : List Typ → Op Named) (w : List Name) (e : Exp Named)
    → strip (all_lets u at x t f w e)
    ≡ let_in (copy_of x u) tt (replace (at u) t) (strip_op (f u)) (more_lets at x t f (others (x ∷ []) u w) (strip e))

-- a group's copies stay as they are, with what follows
abbrev pub StrippedGroups : Type 0
StrippedGroups = (u : List Typ) (vs : List ℕ) (f : List Typ → Funs Named) (w : List Name) (e : Exp Named)
    → strip (all_groups u vs f w e) ≡ all_groups u vs f w e

abbrev pub StripWeighsNothing : Type 0
StripWeighsNothing = (o : Op Named) → op_weight (strip_op o) ≡ op_weight o

abbrev pub StripComparesNothing : Type 0
StripComparesNothing = (o : Op Named) → op_compared (strip_op o) ≡ op_compared o
