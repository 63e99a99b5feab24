-- The SSA form of a well formed program is well formed.
use Rattle.std.proofs.Common.{◌≡◌, ℕ, suc, ◌||◌, List, [], ◌∷◌, length, map, Some, Bool, true, false, nat_eq, slice_get, refl, sym, ap, subst}
use Rattle.std.proofs.lemmas.Bool.{eq-eqb}
use Rattle.std.specs.Prelude.{⊤}
use Rattle.std.specs.List.{AllByRecursion}
use Rattle.mlc_base.specs.declared.place.Place.{Place}
use Rattle.first_values.specs.Operations.{Tables, Callee}
use Rattle.first_values.specs.WellFormed.{is_among, IsIn, AreIn, IsCallee}
use Rattle.ir_first.specs.Tree as f
use Rattle.ir_first.specs.Tree.{Exp, Op, Arms, let_in, first, miss, block, handle, no_arms}
use Rattle.ir_first.specs.Whole.{may_miss, HasWhole, OpHasWhole, ArmsHaveWhole, FunIsWhole}
use Rattle.ir_first.specs.WellFormed as before
use Rattle.ir_ssa.specs.Tree as s
use Rattle.ir_ssa.specs.WellFormed as after
use Rattle.ir_ssa.specs.WellFormed.{Label, IsForward}
use Rattle.ssa_build.specs.Build.{Exit, returns, joins, under, leave, is_last, call_or_tail, handler_exit, build, build_op, build_arms, build_fun}
use Rattle.ssa_build.specs.Laws.{StaysWellFormed}

nat_eq-self : (x : ℕ) → nat_eq x x ≡ true
nat_eq-self x = eq-eqb x x refl

or-left : (a b : Bool) → (a || b) ≡ false → a ≡ false
or-left true b h = absurd (cc)
or-left false b h = refl

or-right : (a b : Bool) → (a || b) ≡ false → b ≡ false
or-right true b h = absurd (cc)
or-right false b h = h

-- what was bound just now
own : (x : ℕ) (xs : List ℕ) → IsIn (x ∷ xs) x
own x xs = ap (λ b. b || is_among x xs) (nat_eq-self x)

-- the labels that a value goes to, and a miss where there may be one
abbrev Leaves : Exit → List Label → Bool → Type 0
Leaves returns ls g = g ≡ false
Leaves (joins l) ls g = IsForward ls l 1

abbrev Misses : Bool → ℕ → List Label → Type 0
Misses true m ls = IsForward ls m 0
Misses false m ls = ⊤

leaves-under : (t : Exit) (k : Label) (ls : List Label) (g : Bool) → Leaves t ls g → Leaves (under t) (k ∷ ls) g
leaves-under returns k ls g h = h
leaves-under (joins l) k ls g h = h

misses-not : (b : Bool) (m : ℕ) (ls : List Label) → b ≡ false → Misses b m ls
misses-not true m ls h = absurd (cc)
misses-not false m ls h = tt

misses-zero : (b : Bool) (ls : List Label) → Misses b 0 (record { takes = 0; loops = false } ∷ ls)
misses-zero true ls = refl
misses-zero false ls = tt

misses-may : (b : Bool) (m : ℕ) (ls : List Label) → IsForward ls m 0 → Misses b m ls
misses-may true m ls h = h
misses-may false m ls h = tt

misses-left : (a b : Bool) (m : ℕ) (ls : List Label) → Misses (a || b) m ls → Misses a m ls
misses-left true b m ls h = h
misses-left false b m ls h = tt

misses-right : (a b : Bool) (m : ℕ) (ls : List Label) → Misses (a || b) m ls → Misses b m ls
misses-right true true m ls h = h
misses-right true false m ls h = tt
misses-right false b m ls h = h

module _ (T : Tables) (arities : List ℕ) where
  abbrev Old : List ℕ → Exp → Type 0
  Old = before.IsScoped T arities

  abbrev New : List ℕ → List Label → Bool → s.Body → Type 0
  New = after.IsScoped T arities

  leave-scoped : (t : Exit) (x : ℕ) (xs : List ℕ) (ls : List Label) (g : Bool) → Leaves t ls g → IsIn xs x → New xs ls g (leave t x)
  leave-scoped returns x xs ls g l h = (l, h)
  leave-scoped (joins n) x xs ls g l h = (l, (h, tt))

  call-scoped : (t : Exit) (q : Bool) (p : Place) (c : Callee) (ys : List ℕ) (x : ℕ) (rest : s.Body) (xs : List ℕ) (ls : List Label) (g : Bool) → Leaves t ls g → IsCallee T arities xs c (length ys) × AreIn xs ys → New (x ∷ xs) ls g rest
      → New xs ls g (call_or_tail t q p c ys x rest)
  call-scoped returns true p c ys x rest xs ls g l h r = (l, h)
  call-scoped returns false p c ys x rest xs ls g l h r = (h, r)
  call-scoped (joins n) q p c ys x rest xs ls g l h r = (h, r)

  handler-leaves : (q : Bool) (t : Exit) (ls : List Label) (g : Bool) → Leaves t ls g → Leaves (handler_exit q t) (record { takes = 1; loops = false } ∷ ls) g
  handler-leaves true t ls g h = leaves-under t _ ls g h
  handler-leaves false t ls g h = refl

  mutual
    scoped : (e : Exp) (t : Exit) (m : ℕ) (xs : List ℕ) (ls : List Label) (g : Bool) → Old xs e → HasWhole e → Leaves t ls g → Misses (may_miss e) m ls → New xs ls g (build t m e)
    scoped (f.ret x) t m xs ls g h w l k = leave-scoped t x xs ls g l h
    scoped (let_in x op e) t m xs ls g h w l k = op-scoped op t m x (is_last x e) (build t m e) xs ls g h.0 w.0 l (scoped e t m (x ∷ xs) ls g h.1 w.1 l k)
    scoped (f.turn p e) t m xs ls g h w l k = scoped e t m xs ls g h w l k
    scoped (f.switch x arms) t m xs ls g h w l k = (h.0, arms-scoped arms t m xs ls g h.1 w l k)
    scoped (f.branch q ys a b) t m xs ls g h w l k = (h.0, (scoped a t m xs ls g h.1.0 w.0 l (misses-left (may_miss a) (may_miss b) m ls k), scoped b t m xs ls g h.1.1 w.1 l (misses-right (may_miss a) (may_miss b) m ls k)))
    scoped (first e d) t m xs ls g h w l k = (scoped d t m xs ls g h.1 w.1 l k, scoped e (under t) 0 xs (record { takes = 0; loops = false } ∷ ls) g h.0 w.0 (leaves-under t _ ls g l) (misses-zero (may_miss e) ls))
    scoped miss t m xs ls g h w l k = (k, tt)

    op-scoped : (op : Op) (t : Exit) (m x : ℕ) (q : Bool) (rest : s.Body) (xs : List ℕ) (ls : List Label) (g : Bool) → before.OpScoped T arities xs op → OpHasWhole op → Leaves t ls g → New (x ∷ xs) ls g rest → New xs ls g (build_op t m x op q rest)
    op-scoped (f.plain p ys) t m x q rest xs ls g h w l r = (h, r)
    op-scoped (f.make i ps) t m x q rest xs ls g h w l r = (h, r)
    op-scoped (f.attempt i p ys) t m x q rest xs ls g h w l r = (h, (r, own x xs))
    op-scoped (f.call p c ys) t m x q rest xs ls g h w l r = call-scoped t q p c ys x rest xs ls g l h r
    op-scoped (block b) t m x true rest xs ls g h w l r = scoped b t m xs ls g h w.1 l (misses-not (may_miss b) m ls w.0)
    op-scoped (block b) t m x false rest xs ls g h w l r = (r, scoped b (joins 0) (suc m) xs (record { takes = 1; loops = false } ∷ ls) g h w.1 refl (misses-not (may_miss b) (suc m) (record { takes = 1; loops = false } ∷ ls) w.0))
    op-scoped (handle b y d) t m x q rest xs ls g h w l r = (
      r,
      (
        (record { takes = 1; loops = false }, refl, scoped b (joins 0) 1 xs (record { takes = 1; loops = false } ∷ []) true h.0 w.0.1 refl (misses-not (may_miss b) 1 (record { takes = 1; loops = false } ∷ []) w.0.0)),
        scoped d (handler_exit q t) (suc m) (y ∷ xs) (record { takes = 1; loops = false } ∷ ls) g h.1 w.1.1 (handler-leaves q t ls g l) (misses-not (may_miss d) (suc m) (record { takes = 1; loops = false } ∷ ls) w.1.0),
      ),
    )
    op-scoped (f.raise y) t m x q rest xs ls g h w l r = h

    arms-scoped : (arms : Arms) (t : Exit) (m : ℕ) (xs : List ℕ) (ls : List Label) (g : Bool) → before.ArmsScoped T arities xs arms → ArmsHaveWhole arms → Leaves t ls g → IsForward ls m 0 → after.AllScoped T arities xs ls g (build_arms t m arms)
    arms-scoped no_arms t m xs ls g h w l k = (k, tt)
    arms-scoped (f.arm i e arms) t m xs ls g h w l k = (scoped e t m xs ls g h.0 w.0 l (misses-may (may_miss e) m ls k), arms-scoped arms t m xs ls g h.1 w.1 l k)

  funs-scoped : (funs : List f.Fun) → AllByRecursion (λ g. Old g.params g.body) funs → AllByRecursion FunIsWhole funs → AllByRecursion (λ g. New g.params [] false g.body) (map build_fun funs)
  funs-scoped [] h w = tt
  funs-scoped (g ∷ funs) h w = (scoped g.body returns 0 g.params [] false h.0 w.0.1 refl (misses-not (may_miss g.body) 0 [] w.0.0), funs-scoped funs h.1 w.1)

arities-same : (funs : List f.Fun) → map after.arity (map build_fun funs) ≡ map before.arity funs
arities-same [] = refl
arities-same (g ∷ funs) = ap (λ ns. length g.params ∷ ns) (arities-same funs)

pub stays-well-formed : StaysWellFormed
stays-well-formed p h = record {
  tables = h.tables;
  main = subst (λ ns. slice_get ns 0 ≡ Some 0) (sym (arities-same p.funs)) h.main;
  scoped = subst (λ ns. AllByRecursion (λ g. after.IsScoped p.tables ns g.params [] false g.body) (map build_fun p.funs)) (sym (arities-same p.funs)) (funs-scoped p.tables (before.arities p) p.funs h.scoped h.whole);
}
