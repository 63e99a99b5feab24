-- Which expressions may miss; and that none does which is not to: bodies, blocks, what is handled, and handlers.
use Rattle.std.specs.Prelude.{◌≡◌, Bool, true, false, ◌||◌, ⊤}
use Rattle.std.specs.List.{AllByRecursion}
use Rattle.ir_first.specs.Tree.{Exp, Op, Arms, Fun, Program, ret, let_in, turn, switch, branch, first, miss, plain, make, attempt, call, block, handle, raise, no_arms, arm}

-- a switch is taken to miss
abbrev pub may_miss : Exp → Bool
may_miss (ret x) = false
may_miss (let_in x op e) = may_miss e
may_miss (turn p e) = may_miss e
may_miss (switch x arms) = true
may_miss (branch q xs a b) = may_miss a || may_miss b
may_miss (first e d) = may_miss d
may_miss miss = true

abbrev pub IsWhole : Exp → Type 0
IsWhole e = may_miss e ≡ false

abbrev mutual
  pub HasWhole : Exp → Type 0
  HasWhole (ret x) = ⊤
  HasWhole (let_in x op e) = OpHasWhole op × HasWhole e
  HasWhole (turn p e) = HasWhole e
  HasWhole (switch x arms) = ArmsHaveWhole arms
  HasWhole (branch q xs a b) = HasWhole a × HasWhole b
  HasWhole (first e d) = HasWhole e × HasWhole d
  HasWhole miss = ⊤

  pub OpHasWhole : Op → Type 0
  OpHasWhole (plain p xs) = ⊤
  OpHasWhole (make t ps) = ⊤
  OpHasWhole (attempt k p xs) = ⊤
  OpHasWhole (call p c xs) = ⊤
  OpHasWhole (block e) = IsWhole e × HasWhole e
  OpHasWhole (handle e y h) = (IsWhole e × HasWhole e) × (IsWhole h × HasWhole h)
  OpHasWhole (raise x) = ⊤

  pub ArmsHaveWhole : Arms → Type 0
  ArmsHaveWhole no_arms = ⊤
  ArmsHaveWhole (arm i e arms) = HasWhole e × ArmsHaveWhole arms

-- a function's body doesn't miss, nor does what is inside it
abbrev pub FunIsWhole : Fun → Type 0
FunIsWhole g = IsWhole g.body × HasWhole g.body

abbrev pub AreWhole : Program → Type 0
AreWhole p = AllByRecursion FunIsWhole p.funs
