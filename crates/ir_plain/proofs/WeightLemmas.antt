-- A stripped copy stands for as many nodes as what it is a copy of.
use Rattle.std.proofs.Common.{◌≡◌, ℕ, ◌+◌, refl, ap}
use Rattle.ir_plain.specs.Kind.{Kind}
use Rattle.ir_plain.specs.Tree.{Exp, ret, let_in, exception_in, name_in, rec_in, switch, first, miss, counted, Arms, no_arms, arm, Op, use_of, const, con_alone, construct, ref_alone, refer, content, pack, make_record, select, prim_alone, prim, app, fn, block, handle, raise, raise_initial}
use Rattle.ir_plain.specs.Copies.{strip, strip_arms, strip_op}
use Rattle.ir_plain.specs.Weight.{weight, arms_weight, op_weight}

sums : {a b c d : ℕ} → a ≡ b → c ≡ d → a + c ≡ b + d
sums e h = rw (e, h) refl

module _ {F : Kind} where
  mutual
    pub strip-weight : (e : Exp F) → weight (strip e) ≡ weight e
    strip-weight (ret a) = refl
    strip-weight (let_in x ps t o e) = sums (op-weight o) (strip-weight e)
    strip-weight (exception_in x i t e) = refl
    strip-weight (name_in x y e) = strip-weight e
    strip-weight (rec_in ps fs e) = refl
    strip-weight (switch a t arms) = arms-weight arms
    strip-weight (first e d) = sums (strip-weight e) (strip-weight d)
    strip-weight miss = refl
    strip-weight (counted n e) = ap (λ k. n + k) (strip-weight e)

    arms-weight : (arms : Arms F) → arms_weight (strip_arms arms) ≡ arms_weight arms
    arms-weight no_arms = refl
    arms-weight (arm c e arms) = sums (strip-weight e) (arms-weight arms)

    op-weight : (o : Op F) → op_weight (strip_op o) ≡ op_weight o
    op-weight (block e) = strip-weight e
    op-weight (use_of x) = refl
    op-weight (const l) = refl
    op-weight (con_alone c t) = refl
    op-weight (construct m c t a) = refl
    op-weight (ref_alone t) = refl
    op-weight (refer m t a) = refl
    op-weight (content t a) = refl
    op-weight (pack m t x a) = refl
    op-weight (make_record t row) = refl
    op-weight (select t l a) = refl
    op-weight (prim_alone p t) = refl
    op-weight (prim m p t as_) = refl
    op-weight (app place f a) = refl
    op-weight (fn f) = refl
    op-weight (handle e x h) = refl
    op-weight (raise a) = refl
    op-weight (raise_initial i) = refl
