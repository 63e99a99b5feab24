-- The identifiers of the exceptions that a program makes.
use Rattle.std.specs.Prelude.{ℕ, List, [], ◌∷◌, ◌++◌}
use Rattle.first_tables.specs.Exceptions.{made_by}
use Rattle.ir_ssa.specs.Tree.{Body, Bodies, Fun, Program, plain, make, attempt, turn, call, label, again, guard, goto, jump, branch, switch, tail, ret, raise, last, arm}

abbrev mutual
  pub makes : Body → List ℕ
  makes (plain p xs x b) = made_by p ++ makes b
  makes (make t ps x b) = makes b
  makes (attempt k p xs x a b) = makes b ++ makes a
  makes (turn p b) = makes b
  makes (call p c xs x b) = makes b
  makes (label params a b) = makes b ++ makes a
  makes (again params a b) = makes b ++ makes a
  makes (guard l a y h) = makes a ++ makes h
  makes (goto l xs) = []
  makes (jump p l xs) = []
  makes (branch q xs a b) = makes a ++ makes b
  makes (switch x bs) = bodies_make bs
  makes (tail p c xs) = []
  makes (ret x) = []
  makes (raise x) = []

  pub bodies_make : Bodies → List ℕ
  bodies_make (last b) = makes b
  bodies_make (arm i b bs) = makes b ++ bodies_make bs

abbrev pub funs_make : List Fun → List ℕ
funs_make [] = []
funs_make (g ∷ funs) = makes g.body ++ funs_make funs

-- those of the initial basis are there from the start
abbrev pub exceptions : Program → List ℕ
exceptions p = p.tables.initial ++ funs_make p.funs
