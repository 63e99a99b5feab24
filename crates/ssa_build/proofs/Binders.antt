-- What the SSA form binds, the program binds, in the same order and as often.
use Rattle.std.proofs.Common.{ℕ, suc, List, [], ◌∷◌, ◌++◌, Bool, true, false}
use Rattle.mlc_base.specs.declared.place.Place.{Place}
use Rattle.first_values.specs.Operations.{Callee}
use Rattle.ir_first.specs.Tree as f
use Rattle.ir_first.specs.Tree.{Exp, Op, Arms, let_in, first, miss, block, handle, no_arms}
use Rattle.ir_first.specs.Size as old
use Rattle.ir_ssa.specs.Tree as s
use Rattle.ir_ssa.specs.Size as new
use Rattle.ssa_build.specs.Build.{Exit, returns, joins, under, leave, is_last, call_or_tail, handler_exit, build, build_op, build_arms}
use Rattle.ssa_build.specs.Laws.{IsPart, nothing, kept, left, BindsNoMore}

pub none-of : (ys : List ℕ) → IsPart [] ys
none-of [] = nothing
none-of (y ∷ ys) = left y [] ys (none-of ys)

pub joined : {xs ys us vs : List ℕ} → IsPart xs ys → IsPart us vs → IsPart (xs ++ us) (ys ++ vs)
joined nothing q = q
joined (kept x xs ys p) q = kept x _ _ (joined p q)
joined (left x xs ys p) q = left x _ _ (joined p q)

pub before-rest : {xs ys : List ℕ} → IsPart xs ys → (R : List ℕ) → IsPart xs (ys ++ R)
before-rest nothing R = none-of R
before-rest (kept x xs ys p) R = kept x _ _ (before-rest p R)
before-rest (left x xs ys p) R = left x _ _ (before-rest p R)

leave-part : (t : Exit) (x : ℕ) → IsPart (new.binders (leave t x)) []
leave-part returns x = nothing
leave-part (joins l) x = nothing

call-part : (t : Exit) (q : Bool) (p : Place) (c : Callee) (xs : List ℕ) (x : ℕ) (rest : s.Body) (R : List ℕ) → IsPart (new.binders rest) R → IsPart (new.binders (call_or_tail t q p c xs x rest)) (x ∷ R)
call-part returns true p c xs x rest R h = none-of _
call-part returns false p c xs x rest R h = kept x _ R h
call-part (joins l) q p c xs x rest R h = kept x _ R h

mutual
  pub part : (t : Exit) (m : ℕ) (e : Exp) → IsPart (new.binders (build t m e)) (old.binders e)
  part t m (f.ret x) = leave-part t x
  part t m (let_in x op e) = part-op t m x op (is_last x e) (build t m e) (old.binders e) (part t m e)
  part t m (f.switch x arms) = part-arms t m arms
  part t m (f.branch q xs a b) = joined (part t m a) (part t m b)
  part t m (f.turn p e) = part t m e
  part t m (first e d) = joined (part (under t) 0 e) (part t m d)
  part t m miss = nothing

  part-op : (t : Exit) (m x : ℕ) (op : Op) (q : Bool) (rest : s.Body) (R : List ℕ) → IsPart (new.binders rest) R → IsPart (new.binders (build_op t m x op q rest)) (x ∷ (old.binders_op op ++ R))
  part-op t m x (f.plain p xs) q rest R h = kept x _ R h
  part-op t m x (f.make i ps) q rest R h = kept x _ R h
  part-op t m x (f.attempt k p xs) q rest R h = kept x _ R h
  part-op t m x (f.call p c xs) q rest R h = call-part t q p c xs x rest R h
  part-op t m x (block e) true rest R h = left x _ _ (before-rest (part t m e) R)
  part-op t m x (block e) false rest R h = kept x _ _ (joined (part (joins 0) (suc m) e) h)
  part-op t m x (handle e y h) q rest R k = kept x _ _ (joined (joined (part (joins 0) 1 e) (kept y _ _ (part (handler_exit q t) (suc m) h))) k)
  part-op t m x (f.raise y) q rest R h = none-of _

  part-arms : (t : Exit) (m : ℕ) (arms : Arms) → IsPart (new.binders_bodies (build_arms t m arms)) (old.binders_arms arms)
  part-arms t m no_arms = nothing
  part-arms t m (f.arm i e arms) = joined (part t m e) (part-arms t m arms)

pub binds-no-more : BindsNoMore
binds-no-more e = part returns 0 e
