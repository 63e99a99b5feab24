-- Giving numbers changes no count.
use Rattle.std.proofs.Common.{◌≡◌, ℕ, ◌+◌, List, refl, ap}
use Rattle.ty_core.specs.Types.{Typ}
use Rattle.ir_mono.specs.of_ir_plain.Tree.{Exp, ret, let_in, exception_in, name_in, rec_in, switch, first, miss, counted, Arms, no_arms, arm, Op, use_of, const, con_alone, construct, ref_alone, refer, content, pack, make_record, select, prim_alone, prim, app, fn, block, handle, raise, raise_initial, Fun, last, more, Funs, no_funs, fun}
use Rattle.ir_mono.specs.of_ir_plain.Weight.{weight, arms_weight, op_weight, fun_weight, funs_weight}
use Rattle.ir_mono.specs.Types as table
use Rattle.monomorphise.specs.Monomorphise.{Named}
use Rattle.monomorphise.specs.Number.{Given, number, number_arms, number_op, number_fun, number_funs}

sums : {a b c d : ℕ} → a ≡ b → c ≡ d → a + c ≡ b + d
sums e h = rw (e, h) refl

module _ (types : List table.Row) (index : Typ → ℕ) where
  mutual
    pub number-weight : (e : Exp Named) (g : Given) (b : ℕ) → weight (number types index g b e) ≡ weight e
    number-weight (ret a) g b = refl
    number-weight (let_in x u t o e) g b = sums (op-number-weight o g b) (number-weight e _ _)
    number-weight (exception_in x i t e) g b = number-weight e _ _
    number-weight (name_in x y e) g b = number-weight e _ _
    number-weight (rec_in u fs e) g b = sums (funs-number-weight fs _ _ _) (number-weight e _ _)
    number-weight (switch a t arms) g b = arms-number-weight arms g b
    number-weight (first e d) g b = sums (number-weight e g b) (number-weight d _ _)
    number-weight miss g b = refl
    number-weight (counted n e) g b = ap (λ k. n + k) (number-weight e g b)

    arms-number-weight : (arms : Arms Named) (g : Given) (b : ℕ) → arms_weight (number_arms types index g b arms) ≡ arms_weight arms
    arms-number-weight no_arms g b = refl
    arms-number-weight (arm c e arms) g b = sums (number-weight e _ _) (arms-number-weight arms g _)

    op-number-weight : (o : Op Named) (g : Given) (b : ℕ) → op_weight (number_op types index g b o) ≡ op_weight o
    op-number-weight (fn f) g b = fun-number-weight f g b
    op-number-weight (block e) g b = number-weight e g b
    op-number-weight (handle e x d) g b = sums (number-weight e g b) (number-weight d _ _)
    op-number-weight (use_of x) g b = refl
    op-number-weight (const l) g b = refl
    op-number-weight (con_alone c t) g b = refl
    op-number-weight (construct m c t a) g b = refl
    op-number-weight (ref_alone t) g b = refl
    op-number-weight (refer m t a) g b = refl
    op-number-weight (content t a) g b = refl
    op-number-weight (pack m t x a) g b = refl
    op-number-weight (make_record t row) g b = refl
    op-number-weight (select t l a) g b = refl
    op-number-weight (prim_alone p t) g b = refl
    op-number-weight (prim m p t as_) g b = refl
    op-number-weight (app place f a) g b = refl
    op-number-weight (raise a) g b = refl
    op-number-weight (raise_initial i) g b = refl

    fun-number-weight : (f : Fun Named) (g : Given) (b : ℕ) → fun_weight (number_fun types index g b f) ≡ fun_weight f
    fun-number-weight (last x t e) g b = number-weight e _ _
    fun-number-weight (more x t f) g b = fun-number-weight f _ _

    funs-number-weight : (fs : Funs Named) (g : Given) (n b : ℕ) → funs_weight (number_funs types index g n b fs) ≡ funs_weight fs
    funs-number-weight no_funs g n b = refl
    funs-number-weight (fun x t f fs) g n b = sums (fun-number-weight f g b) (funs-number-weight fs g n _)
