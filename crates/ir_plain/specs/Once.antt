-- How often a variable is bound. A program binds each variable once where this is at most 1 for each.
use Rattle.std.specs.Prelude.{ℕ, ◌+◌, ◌≤◌, nat_eq, if◌then◌else◌}
use Rattle.ir_plain.specs.Kind.{Kind}
use Rattle.ir_plain.specs.Tree.{Case, is_literal, is_con, is_con_of, is_exn, is_exn_of, is_record, Exp, ret, let_in, exception_in, name_in, rec_in, switch, first, miss, counted, Arms, no_arms, arm, Op, use_of, const, con_alone, construct, ref_alone, refer, content, pack, make_record, select, prim_alone, prim, app, fn, block, handle, raise, raise_initial, Fun, last, more, Funs, no_funs, fun}

abbrev pub hit : (k x : ℕ) → ℕ
hit k x = if nat_eq k x then 1 else 0

-- the sum of h over all binders
module _ {F : Kind} (h : F.Binder → ℕ) where
  abbrev pub case_times : Case F → ℕ
  case_times (is_literal l) = 0
  case_times (is_con c) = 0
  case_times (is_con_of c x t) = h x
  case_times (is_exn a) = 0
  case_times (is_exn_of a x t) = h x
  case_times (is_record size) = 0

  abbrev mutual
    pub times : Exp F → ℕ
    times (ret a) = 0
    times (let_in x ps t o e) = h x + (op_times o + times e)
    times (exception_in x i t e) = h x + times e
    times (name_in x y e) = h x + times e
    times (rec_in ps fs e) = funs_times fs + times e
    times (switch a t arms) = arms_times arms
    times (first e d) = times e + times d
    times miss = 0
    times (counted n e) = times e

    pub arms_times : Arms F → ℕ
    arms_times no_arms = 0
    arms_times (arm c e arms) = case_times c + (times e + arms_times arms)

    pub op_times : Op F → ℕ
    op_times (use_of x) = 0
    op_times (const l) = 0
    op_times (con_alone c t) = 0
    op_times (construct m c t a) = 0
    op_times (ref_alone t) = 0
    op_times (refer m t a) = 0
    op_times (content t a) = 0
    op_times (pack m t x a) = 0
    op_times (make_record t row) = 0
    op_times (select t l a) = 0
    op_times (prim_alone p t) = 0
    op_times (prim m p t as_) = 0
    op_times (app place f a) = 0
    op_times (fn f) = fun_times f
    op_times (block e) = times e
    op_times (handle e x d) = h x + (times e + times d)
    op_times (raise a) = 0
    op_times (raise_initial i) = 0

    pub fun_times : Fun F → ℕ
    fun_times (last x t e) = h x + times e
    fun_times (more x t f) = h x + fun_times f

    pub funs_times : Funs F → ℕ
    funs_times no_funs = 0
    funs_times (fun x t f fs) = h x + (fun_times f + funs_times fs)

-- where binders have numbers
abbrev pub IsOnce : {F : Kind} → (F.Binder → ℕ) → Exp F → Type 0
IsOnce number e = (k : ℕ) → times (λ x. hit k (number x)) e ≤ 1
