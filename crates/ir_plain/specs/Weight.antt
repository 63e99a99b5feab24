-- How many nodes of the source a tree stands for. Their sum is what the limit on expansion counts.
use Rattle.std.specs.Prelude.{ℕ, ◌+◌}
use Rattle.ir_plain.specs.Kind.{Kind}
use Rattle.ir_plain.specs.Tree.{Exp, ret, let_in, exception_in, name_in, rec_in, switch, first, miss, counted, Arms, no_arms, arm, Op, use_of, const, con_alone, construct, ref_alone, refer, content, pack, make_record, select, prim_alone, prim, app, fn, block, handle, raise, raise_initial, Fun, last, more, Funs, no_funs, fun}

module _ {F : Kind} where
  abbrev mutual
    pub weight : Exp F → ℕ
    weight (ret a) = 0
    weight (let_in x ps t o e) = op_weight o + weight e
    weight (exception_in x i t e) = weight e
    weight (name_in x y e) = weight e
    weight (rec_in ps fs e) = funs_weight fs + weight e
    weight (switch a t arms) = arms_weight arms
    weight (first e d) = weight e + weight d
    weight miss = 0
    weight (counted n e) = n + weight e

    pub arms_weight : Arms F → ℕ
    arms_weight no_arms = 0
    arms_weight (arm c e arms) = weight e + arms_weight arms

    pub op_weight : Op F → ℕ
    op_weight (use_of x) = 0
    op_weight (const l) = 0
    op_weight (con_alone c t) = 0
    op_weight (construct m c t a) = 0
    op_weight (ref_alone t) = 0
    op_weight (refer m t a) = 0
    op_weight (content t a) = 0
    op_weight (pack m t x a) = 0
    op_weight (make_record t row) = 0
    op_weight (select t l a) = 0
    op_weight (prim_alone p t) = 0
    op_weight (prim m p t as_) = 0
    op_weight (app place f a) = 0
    op_weight (fn f) = fun_weight f
    op_weight (block e) = weight e
    op_weight (handle e x d) = weight e + weight d
    op_weight (raise a) = 0
    op_weight (raise_initial i) = 0

    pub fun_weight : Fun F → ℕ
    fun_weight (last x t e) = weight e
    fun_weight (more x t f) = fun_weight f

    pub funs_weight : Funs F → ℕ
    funs_weight no_funs = 0
    funs_weight (fun x t f fs) = fun_weight f + funs_weight fs
