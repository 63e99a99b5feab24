-- The SSA form is at most twice as large.
use Rattle.std.proofs.Common.{ℕ, suc, ◌+◌, ◌≤◌, List, [], ◌∷◌, length, map, Bool, true, false, arith}
use Rattle.mlc_base.specs.declared.place.Place.{Place}
use Rattle.first_values.specs.Operations.{Callee}
use Rattle.ir_first.specs.Tree as f
use Rattle.ir_first.specs.Tree.{Exp, Op, Arms, let_in, first, miss, block, handle, no_arms}
use Rattle.ir_first.specs.Size as few
use Rattle.ir_ssa.specs.Tree as s
use Rattle.ir_ssa.specs.Size as many
use Rattle.ssa_build.specs.Build.{Exit, returns, joins, under, leave, is_last, call_or_tail, handler_exit, build, build_op, build_arms, build_fun}
use Rattle.ssa_build.specs.Laws.{StaysSmall}

leave-small : (t : Exit) (x : ℕ) → many.nodes (leave t x) ≤ 2
leave-small returns x = omega arith
leave-small (joins l) x = omega arith

call-small : (t : Exit) (q : Bool) (p : Place) (c : Callee) (xs : List ℕ) (x : ℕ) (rest : s.Body) → many.nodes (call_or_tail t q p c xs x rest) ≤ 2 + length xs + many.nodes rest
call-small returns true p c xs x rest = omega arith
call-small returns false p c xs x rest = omega arith
call-small (joins l) q p c xs x rest = omega arith

mutual
  pub small : (t : Exit) (m : ℕ) (e : Exp) → many.nodes (build t m e) ≤ few.nodes e + few.nodes e
  small t m (f.ret x) = omega (arith, leave-small t x)
  small t m (let_in x op e) = omega (arith, small-op t m x op (is_last x e) (build t m e), small t m e)
  small t m (f.switch x arms) = omega (arith, small-arms t m arms)
  small t m (f.branch q xs a b) = omega (arith, small t m a, small t m b)
  small t m (f.turn p e) = omega (arith, small t m e)
  small t m (first e d) = omega (arith, small (under t) 0 e, small t m d)
  small t m miss = omega arith

  small-op : (t : Exit) (m x : ℕ) (op : Op) (q : Bool) (rest : s.Body) → many.nodes (build_op t m x op q rest) ≤ 2 + few.nodes_op op + few.nodes_op op + many.nodes rest
  small-op t m x (f.plain p xs) q rest = omega arith
  small-op t m x (f.make i ps) q rest = omega arith
  small-op t m x (f.attempt k p xs) q rest = omega arith
  small-op t m x (f.call p c xs) q rest = omega (arith, call-small t q p c xs x rest)
  small-op t m x (block e) true rest = omega (arith, small t m e)
  small-op t m x (block e) false rest = omega (arith, small (joins 0) (suc m) e)
  small-op t m x (handle e y h) q rest = omega (arith, small (joins 0) 1 e, small (handler_exit q t) (suc m) h)
  small-op t m x (f.raise y) q rest = omega arith

  small-arms : (t : Exit) (m : ℕ) (arms : Arms) → many.nodes_bodies (build_arms t m arms) ≤ 1 + few.nodes_arms arms + few.nodes_arms arms
  small-arms t m no_arms = omega arith
  small-arms t m (f.arm i e arms) = omega (arith, small t m e, small-arms t m arms)

funs-small : (funs : List f.Fun) → many.nodes_funs (map build_fun funs) ≤ few.nodes_funs funs + few.nodes_funs funs
funs-small [] = omega arith
funs-small (g ∷ funs) = omega (arith, small returns 0 g.body, funs-small funs)

pub stays-small : StaysSmall
stays-small p = funs-small p.funs
