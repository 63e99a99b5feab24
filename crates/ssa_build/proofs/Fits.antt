-- The SSA form has no more variables in scope at once than the program.
use Rattle.std.proofs.Common.{◌≡◌, ℕ, suc, List, Bool, true, false, arith}
use Rattle.mlc_base.specs.declared.place.Place.{Place}
use Rattle.first_values.specs.Operations.{Callee}
use Rattle.ir_first.specs.Tree as f
use Rattle.ir_first.specs.Tree.{Exp, Op, Arms, let_in, first, miss, block, handle, no_arms}
use Rattle.ir_first.specs.Size as old
use Rattle.ir_ssa.specs.Tree as s
use Rattle.ir_ssa.specs.Size as new
use Rattle.ssa_build.specs.Build.{Exit, returns, joins, under, leave, is_last, call_or_tail, handler_exit, build, build_op, build_arms}
use Rattle.ssa_build.specs.Laws.{NeedsNoMoreAtOnce}

leave-fits : (n : ℕ) (t : Exit) (x : ℕ) → new.FitsIn n (leave t x)
leave-fits n returns x = tt
leave-fits n (joins l) x = tt

call-fits : (n k : ℕ) (t : Exit) (q : Bool) (p : Place) (c : Callee) (xs : List ℕ) (x : ℕ) (rest : s.Body) → n ≡ suc k → new.FitsIn k rest → new.FitsIn n (call_or_tail t q p c xs x rest)
call-fits n k returns true p c xs x rest e h = tt
call-fits n k returns false p c xs x rest e h = (k, e, h)
call-fits n k (joins l) q p c xs x rest e h = (k, e, h)

mutual
  fits : (n : ℕ) (t : Exit) (m : ℕ) (e : Exp) → old.FitsIn n e → new.FitsIn n (build t m e)
  fits n t m (f.ret x) h = leave-fits n t x
  fits n t m (let_in x op e) (k, q, h) = fits-op n k t m x op (is_last x e) (build t m e) q h.0 (fits k t m e h.1)
  fits n t m (f.turn p e) h = fits n t m e h
  fits n t m (f.switch x arms) h = fits-arms n t m arms h
  fits n t m (f.branch q xs a b) h = (fits n t m a h.0, fits n t m b h.1)
  fits n t m (first e d) h = ((n, omega arith, fits n t m d h.1), fits n (under t) 0 e h.0)
  fits n t m miss h = tt

  fits-op : (n k : ℕ) (t : Exit) (m x : ℕ) (op : Op) (q : Bool) (rest : s.Body) → n ≡ suc k → old.OpFitsIn n op → new.FitsIn k rest → new.FitsIn n (build_op t m x op q rest)
  fits-op n k t m x (f.plain p xs) q rest e h r = (k, e, r)
  fits-op n k t m x (f.make i ps) q rest e h r = (k, e, r)
  fits-op n k t m x (f.attempt i p xs) q rest e h r = (k, e, (r, tt))
  fits-op n k t m x (f.call p c xs) q rest e h r = call-fits n k t q p c xs x rest e r
  fits-op n k t m x (block b) true rest e h r = fits n t m b h
  fits-op n k t m x (block b) false rest e h r = ((k, omega (arith, e), r), fits n (joins 0) (suc m) b h)
  fits-op n k t m x (handle b y d) q rest e (h, (j, i, g)) r = ((k, omega (arith, e), r), (fits n (joins 0) 1 b h, (j, i, fits j (handler_exit q t) (suc m) d g)))
  fits-op n k t m x (f.raise y) q rest e h r = tt

  fits-arms : (n : ℕ) (t : Exit) (m : ℕ) (arms : Arms) → old.ArmsFitIn n arms → new.AllFitIn n (build_arms t m arms)
  fits-arms n t m no_arms h = tt
  fits-arms n t m (f.arm i e arms) h = (fits n t m e h.0, fits-arms n t m arms h.1)

pub needs-no-more : NeedsNoMoreAtOnce
needs-no-more n e h = fits n returns 0 e h
