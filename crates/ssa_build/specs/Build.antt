-- The SSA form of a program: where an expression's value goes is known when it is built, and a miss goes to a label.
use Rattle.std.specs.Prelude.{ℕ, suc, List, [], ◌∷◌, map, Bool, true, false, nat_eq, if◌then◌else◌}
use Rattle.mlc_base.specs.declared.place.Place.{Place}
use Rattle.first_values.specs.Operations.{Callee}
use Rattle.ir_first.specs.Tree as f
use Rattle.ir_first.specs.Tree.{Exp, Op, Arms, let_in, first, miss, block, handle, no_arms}
use Rattle.ir_ssa.specs.Tree as s
use Rattle.ir_ssa.specs.Tree.{Body, Bodies, label, guard, goto, tail}

-- where the value of an expression goes: out of the function, or to a label
pub data Exit : Type 0 where
  returns : Exit
  joins : (l : ℕ) → Exit

-- the same, under one more label
abbrev pub under : Exit → Exit
under returns = returns
under (joins l) = joins (suc l)

abbrev pub leave : Exit → ℕ → Body
leave returns x = s.ret x
leave (joins l) x = goto l (x ∷ [])

-- whether the expression only gives the value of x
abbrev pub is_last : ℕ → Exp → Bool
is_last x (f.ret y) = nat_eq y x
is_last x e = false

-- a call whose value the function gives is a tail call; outside handlers alone, since inside a value goes to a label
abbrev pub call_or_tail : Exit → Bool → Place → Callee → List ℕ → ℕ → Body → Body
call_or_tail returns true p c xs x rest = tail p c xs
call_or_tail returns false p c xs x rest = s.call p c xs x rest
call_or_tail (joins l) q p c xs x rest = s.call p c xs x rest

-- a handler's own tail calls are the function's
abbrev pub handler_exit : Bool → Exit → Exit
handler_exit true t = under t
handler_exit false t = joins 0

-- with the label to go to where it misses
abbrev mutual
  pub build : Exit → ℕ → Exp → Body
  build t m (f.ret x) = leave t x
  build t m (let_in x op e) = build_op t m x op (is_last x e) (build t m e)
  build t m (f.turn p e) = s.turn p (build t m e)
  build t m (f.switch x arms) = s.switch x (build_arms t m arms)
  build t m (f.branch q xs a b) = s.branch q xs (build t m a) (build t m b)
  build t m (first e d) = label [] (build t m d) (build (under t) 0 e)
  build t m miss = goto m []

  -- before the rest, which may do nothing but give its value
  pub build_op : Exit → ℕ → ℕ → Op → Bool → Body → Body
  build_op t m x (f.plain p xs) q rest = s.plain p xs x rest
  build_op t m x (f.make i ps) q rest = s.make i ps x rest
  build_op t m x (f.attempt k p xs) q rest = s.attempt k p xs x rest (s.raise x)
  build_op t m x (f.call p c xs) q rest = call_or_tail t q p c xs x rest
  build_op t m x (block e) q rest = if q then build t m e else label (x ∷ []) rest (build (joins 0) (suc m) e)
  build_op t m x (handle e y h) q rest = label (x ∷ []) rest (guard 0 (build (joins 0) 1 e) y (build (handler_exit q t) (suc m) h))
  build_op t m x (f.raise y) q rest = s.raise y

  pub build_arms : Exit → ℕ → Arms → Bodies
  build_arms t m no_arms = s.last (goto m [])
  build_arms t m (f.arm i e arms) = s.arm i (build t m e) (build_arms t m arms)

abbrev pub build_fun : f.Fun → s.Fun
build_fun g = record { params = g.params; body = build returns 0 g.body }

abbrev pub ssa : f.Program → s.Program
ssa p = record { tables = p.tables; funs = map build_fun p.funs }
