-- The identifiers of the exceptions that a program makes.
use Rattle.std.specs.Prelude.{ℕ, List, [], ◌∷◌, ◌++◌}
use Rattle.first_tables.specs.Exceptions.{made_by}
use Rattle.ir_first.specs.Tree.{Exp, Op, Arms, Fun, Program}
use Rattle.ir_first.specs.Tree.{ret, let_in, turn, switch, branch, first, miss, plain, make, attempt, call, block, handle, raise, no_arms, arm}

abbrev mutual
  pub makes : Exp → List ℕ
  makes (ret x) = []
  makes (let_in x op e) = op_makes op ++ makes e
  makes (turn p e) = makes e
  makes (switch x arms) = arms_make arms
  makes (branch q xs a b) = makes a ++ makes b
  makes (first e d) = makes e ++ makes d
  makes miss = []

  pub op_makes : Op → List ℕ
  op_makes (plain p xs) = made_by p
  op_makes (make t ps) = []
  op_makes (attempt k p xs) = []
  op_makes (call p c xs) = []
  op_makes (block e) = makes e
  op_makes (handle e y h) = makes e ++ makes h
  op_makes (raise x) = []

  pub arms_make : Arms → List ℕ
  arms_make no_arms = []
  arms_make (arm i e arms) = makes e ++ arms_make arms

abbrev pub funs_make : List Fun → List ℕ
funs_make [] = []
funs_make (g ∷ funs) = makes g.body ++ funs_make funs

-- those of the initial basis are there from the start
abbrev pub exceptions : Program → List ℕ
exceptions p = p.tables.initial ++ funs_make p.funs
