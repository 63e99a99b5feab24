-- Taking no turns, once and again.
use Rattle.std.proofs.Common.{◌≡◌, ℕ, ◌+◌, List, [], ◌∷◌, ◌++◌, refl, ap, ap₂}
use Rattle.ty_core.specs.Types.{Typ}
use Rattle.ty_core.specs.Statics.{replace}
use Rattle.ir_plain.specs.Copies.{strip, strip_arms, strip_op}
use Rattle.ir_plain.specs.Kind.{Kind}
use Rattle.ir_plain.specs.Tree.{Exp, ret, let_in, exception_in, name_in, rec_in, switch, first, miss, counted, Arms, no_arms, arm, Op, use_of, const, con_alone, construct, ref_alone, refer, content, pack, make_record, select, prim_alone, prim, app, fn, block, handle, raise, raise_initial}
use Rattle.ir_plain.specs.Weight.{weight, arms_weight, op_weight}
use Rattle.monomorphise.specs.Expansion.{compared, arms_compared, op_compared}
use Rattle.monomorphise.specs.Monomorphise.{copy_of, Named, others, more_lets}
use Rattle.mono_strip.specs.Laws.{StripIsOnce, StrippedLets, StrippedGroups, StripWeighsNothing, StripComparesNothing}

module _ {F : Kind} where
  mutual
    strip-once : (e : Exp F) → strip (strip e) ≡ strip e
    strip-once (ret a) = refl
    strip-once (let_in x ps t o e) = ap₂ (λ o e. let_in x ps t o e) (op-once o) (strip-once e)
    strip-once (exception_in x i t e) = refl
    strip-once (name_in x y e) = ap (name_in x y) (strip-once e)
    strip-once (rec_in ps fs e) = refl
    strip-once (switch a t arms) = ap (switch a t) (arms-once arms)
    strip-once (first e d) = ap₂ first (strip-once e) (strip-once d)
    strip-once miss = refl
    strip-once (counted n e) = ap (counted n) (strip-once e)

    arms-once : (arms : Arms F) → strip_arms (strip_arms arms) ≡ strip_arms arms
    arms-once no_arms = refl
    arms-once (arm c e arms) = ap₂ (arm c) (strip-once e) (arms-once arms)

    op-once : (o : Op F) → strip_op (strip_op o) ≡ strip_op o
    op-once (use_of x) = refl
    op-once (const l) = refl
    op-once (con_alone c t) = refl
    op-once (construct m c t a) = refl
    op-once (ref_alone t) = refl
    op-once (refer m t a) = refl
    op-once (content t a) = refl
    op-once (pack m t x a) = refl
    op-once (make_record t row) = refl
    op-once (select t l a) = refl
    op-once (prim_alone p t) = refl
    op-once (prim m p t as_) = refl
    op-once (app place f a) = refl
    op-once (fn f) = refl
    op-once (block e) = ap block (strip-once e)
    op-once (handle e x h) = refl
    op-once (raise a) = refl
    op-once (raise_initial i) = refl

pub strip-is-once : StripIsOnce
strip-is-once = op-once

lets-stripped : (at : List Typ → ℕ → Typ) (x : ℕ) (t : Typ) (f : List Typ → Op Named) (ts : List (List Typ)) (e : Exp Named) → strip (more_lets at x t f ts e) ≡ more_lets at x t f ts (strip e)
lets-stripped at x t f [] e = refl
lets-stripped at x t f (a ∷ ts) e = ap₂ (λ o e. let_in (copy_of x a) tt (replace (at a) t) o e) (op-once (f a)) (lets-stripped at x t f ts e)

pub stripped-lets : StrippedLets
stripped-lets u at x t f w e = ap (let_in (copy_of x u) tt (replace (at u) t) (strip_op (f u))) (lets-stripped at x t f (others (x ∷ []) u w) e)

pub stripped-groups : StrippedGroups
stripped-groups u vs f w e = refl

-- counts

mutual
  weighs : (e : Exp Named) → weight (strip e) ≡ weight e
  weighs (ret a) = refl
  weighs (let_in x ps t o e) = ap₂ (λ a b. a + b) (op-weighs o) (weighs e)
  weighs (exception_in x i t e) = refl
  weighs (name_in x y e) = weighs e
  weighs (rec_in ps fs e) = refl
  weighs (switch a t arms) = arms-weigh arms
  weighs (first e d) = ap₂ (λ a b. a + b) (weighs e) (weighs d)
  weighs miss = refl
  weighs (counted n e) = ap (λ a. n + a) (weighs e)

  arms-weigh : (arms : Arms Named) → arms_weight (strip_arms arms) ≡ arms_weight arms
  arms-weigh no_arms = refl
  arms-weigh (arm c e arms) = ap₂ (λ a b. a + b) (weighs e) (arms-weigh arms)

  op-weighs : (o : Op Named) → op_weight (strip_op o) ≡ op_weight o
  op-weighs (use_of x) = refl
  op-weighs (const l) = refl
  op-weighs (con_alone c t) = refl
  op-weighs (construct m c t a) = refl
  op-weighs (ref_alone t) = refl
  op-weighs (refer m t a) = refl
  op-weighs (content t a) = refl
  op-weighs (pack m t x a) = refl
  op-weighs (make_record t row) = refl
  op-weighs (select t l a) = refl
  op-weighs (prim_alone p t) = refl
  op-weighs (prim m p t as_) = refl
  op-weighs (app place f a) = refl
  op-weighs (fn f) = refl
  op-weighs (block e) = weighs e
  op-weighs (handle e x h) = refl
  op-weighs (raise a) = refl
  op-weighs (raise_initial i) = refl

mutual
  compares : (e : Exp Named) → compared (strip e) ≡ compared e
  compares (ret a) = refl
  compares (let_in x ps t o e) = ap₂ (λ a b. a ++ b) (op-compares o) (compares e)
  compares (exception_in x i t e) = refl
  compares (name_in x y e) = compares e
  compares (rec_in ps fs e) = refl
  compares (switch a t arms) = arms-compare arms
  compares (first e d) = ap₂ (λ a b. a ++ b) (compares e) (compares d)
  compares miss = refl
  compares (counted n e) = compares e

  arms-compare : (arms : Arms Named) → arms_compared (strip_arms arms) ≡ arms_compared arms
  arms-compare no_arms = refl
  arms-compare (arm c e arms) = ap₂ (λ a b. a ++ b) (compares e) (arms-compare arms)

  op-compares : (o : Op Named) → op_compared (strip_op o) ≡ op_compared o
  op-compares (use_of x) = refl
  op-compares (const l) = refl
  op-compares (con_alone c t) = refl
  op-compares (construct m c t a) = refl
  op-compares (ref_alone t) = refl
  op-compares (refer m t a) = refl
  op-compares (content t a) = refl
  op-compares (pack m t x a) = refl
  op-compares (make_record t row) = refl
  op-compares (select t l a) = refl
  op-compares (prim_alone p t) = refl
  op-compares (prim m p t as_) = refl
  op-compares (app place f a) = refl
  op-compares (fn f) = refl
  op-compares (block e) = compares e
  op-compares (handle e x h) = refl
  op-compares (raise a) = refl
  op-compares (raise_initial i) = refl

pub weighs-nothing : StripWeighsNothing
weighs-nothing = op-weighs

pub compares-nothing : StripComparesNothing
compares-nothing = op-compares
