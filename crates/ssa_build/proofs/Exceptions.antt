-- What the SSA form makes, the program makes, in the same order and as often.
use Rattle.std.proofs.Common.{ℕ, suc, List, [], ◌∷◌, ◌++◌, Bool, true, false, map}
use Rattle.mlc_base.specs.declared.place.Place.{Place}
use Rattle.first_values.specs.Operations.{Callee}
use Rattle.ir_first.specs.Tree as f
use Rattle.ir_first.specs.Tree.{Exp, Op, Arms, let_in, first, miss, block, handle, no_arms}
use Rattle.first_tree.specs.Exceptions as old
use Rattle.ir_ssa.specs.Tree as s
use Rattle.ssa_tree.specs.Exceptions as new
use Rattle.ssa_build.specs.Build.{Exit, returns, joins, under, leave, is_last, call_or_tail, handler_exit, build, build_op, build_arms, build_fun}
use Rattle.ssa_build.specs.Laws.{IsPart, nothing, kept, left, MakesNoMore}
use Rattle.ssa_build.proofs.Binders.{none-of, joined, before-rest}

same-part : (xs : List ℕ) → IsPart xs xs
same-part [] = nothing
same-part (x ∷ xs) = kept x xs xs (same-part xs)

leave-part : (t : Exit) (x : ℕ) → IsPart (new.makes (leave t x)) []
leave-part returns x = nothing
leave-part (joins l) x = nothing

call-part : (t : Exit) (q : Bool) (p : Place) (c : Callee) (xs : List ℕ) (x : ℕ) (rest : s.Body) (R : List ℕ) → IsPart (new.makes rest) R → IsPart (new.makes (call_or_tail t q p c xs x rest)) R
call-part returns true p c xs x rest R h = none-of _
call-part returns false p c xs x rest R h = h
call-part (joins l) q p c xs x rest R h = h

mutual
  part : (t : Exit) (m : ℕ) (e : Exp) → IsPart (new.makes (build t m e)) (old.makes e)
  part t m (f.ret x) = leave-part t x
  part t m (let_in x op e) = part-op t m x op (is_last x e) (build t m e) (old.makes e) (part t m e)
  part t m (f.switch x arms) = part-arms t m arms
  part t m (f.branch q xs a b) = joined (part t m a) (part t m b)
  part t m (f.turn p e) = part t m e
  part t m (first e d) = joined (part (under t) 0 e) (part t m d)
  part t m miss = nothing

  part-op : (t : Exit) (m x : ℕ) (op : Op) (q : Bool) (rest : s.Body) (R : List ℕ) → IsPart (new.makes rest) R → IsPart (new.makes (build_op t m x op q rest)) (old.op_makes op ++ R)
  part-op t m x (f.plain p xs) q rest R h = joined (same-part _) h
  part-op t m x (f.make i ps) q rest R h = h
  part-op t m x (f.attempt k p xs) q rest R h = h
  part-op t m x (f.call p c xs) q rest R h = call-part t q p c xs x rest R h
  part-op t m x (block e) true rest R h = before-rest (part t m e) R
  part-op t m x (block e) false rest R h = joined (part (joins 0) (suc m) e) h
  part-op t m x (handle e y h) q rest R k = joined (joined (part (joins 0) 1 e) (part (handler_exit q t) (suc m) h)) k
  part-op t m x (f.raise y) q rest R h = none-of _

  part-arms : (t : Exit) (m : ℕ) (arms : Arms) → IsPart (new.bodies_make (build_arms t m arms)) (old.arms_make arms)
  part-arms t m no_arms = nothing
  part-arms t m (f.arm i e arms) = joined (part t m e) (part-arms t m arms)

parts : (funs : List f.Fun) → IsPart (new.funs_make (map build_fun funs)) (old.funs_make funs)
parts [] = nothing
parts (g ∷ funs) = joined (part returns 0 g.body) (parts funs)

pub makes-no-more : MakesNoMore
makes-no-more p = joined (same-part p.tables.initial) (parts p.funs)
