-- What is claimed of the pass.
use Rattle.std.specs.Prelude.{◌≡◌, ℕ, ◌+◌, ◌≤◌, List, [], ◌∷◌}
use Rattle.ir_first.specs.Tree as f
use Rattle.ir_first.specs.Meaning as before
use Rattle.ir_first.specs.WellFormed as f_formed
use Rattle.ir_first.specs.Size as f_size
use Rattle.ir_ssa.specs.Meaning as after
use Rattle.ir_ssa.specs.WellFormed as s_formed
use Rattle.ir_ssa.specs.Size as s_size
use Rattle.first_tree.specs.Exceptions as f_exceptions
use Rattle.ssa_tree.specs.Exceptions as s_exceptions
use Rattle.ssa_build.specs.Build.{returns, build, ssa}

-- one outcome at every number of turns, Going and Wrong included, with no premise
abbrev pub SameMeaning : Type 0
SameMeaning = (p : f.Program) (m : ℕ) → after.meaning (ssa p) m ≡ before.meaning p m

abbrev pub StaysWellFormed : Type 0
StaysWellFormed = (p : f.Program) → f_formed.IsWellFormed p → s_formed.IsWellFormed (ssa p)

-- at most twice the nodes
abbrev pub StaysSmall : Type 0
StaysSmall = (p : f.Program) → s_size.nodes_funs (ssa p).funs ≤ f_size.nodes_funs p.funs + f_size.nodes_funs p.funs

-- a list with some elements of another left out
pub data IsPart : List ℕ → List ℕ → Type 0 where
  nothing : IsPart [] []
  kept : (x : ℕ) (xs ys : List ℕ) → IsPart xs ys → IsPart (x ∷ xs) (x ∷ ys)
  left : (x : ℕ) (xs ys : List ℕ) → IsPart xs ys → IsPart xs (x ∷ ys)

-- what a function's SSA form binds, it bound, in that order and as often
abbrev pub BindsNoMore : Type 0
BindsNoMore = (e : f.Exp) → IsPart (s_size.binders (build returns 0 e)) (f_size.binders e)

-- where at most n more variables are in scope at once, at most n are
abbrev pub NeedsNoMoreAtOnce : Type 0
NeedsNoMoreAtOnce = (n : ℕ) (e : f.Exp) → f_size.FitsIn n e → s_size.FitsIn n (build returns 0 e)

-- what a program's SSA form makes of exceptions, the program made, in that order and as often
abbrev pub MakesNoMore : Type 0
MakesNoMore = (p : f.Program) → IsPart (s_exceptions.exceptions (ssa p)) (f_exceptions.exceptions p)
