-- How often a variable is bound. A program binds each variable once where this is at most 1 for each.
use Rattle.std.specs.Prelude.{ℕ, ◌+◌, ◌≤◌, List, [], ◌∷◌}
use Rattle.ir_plain.specs.Once.{hit}
use Rattle.ir_poly.specs.Prog.{Pat, any_pat, variable_pat, constant_pat, con_pat, con_of_pat, ref_of_pat, exn_pat, exn_of_pat, fields_pat, as_pat, PatFields, no_pats, a_pat, Exp, constant_exp, variable_exp, own_exp, con_exp, ref_exp, exn_exp, prim_exp, fields_exp, let_exp, app_exp, case_exp, chain_exp, handle_exp, raise_exp, fn_exp, counted_exp, Fields, no_fields, a_field, Chain, only, link, Rules, no_rules, a_rule, Fun, last, by_rules, more, Decs, no_decs, val_dec, exception_dec, counted_dec, Binds, no_binds, a_bind, Funs, no_funs, a_fun}

-- the sum of h over all variables that are bound
module _ (h : ℕ → ℕ) where
  abbrev mutual
    pub pat_times : Pat → ℕ
    pat_times any_pat = 0
    pat_times (variable_pat x) = h x
    pat_times (constant_pat l) = 0
    pat_times (con_pat c) = 0
    pat_times (con_of_pat c t p) = pat_times p
    pat_times (ref_of_pat t p) = pat_times p
    pat_times (exn_pat x) = 0
    pat_times (exn_of_pat x t p) = pat_times p
    pat_times (fields_pat further ps) = pats_times ps
    pat_times (as_pat x p) = h x + pat_times p

    pub pats_times : PatFields → ℕ
    pats_times no_pats = 0
    pats_times (a_pat l t p ps) = pat_times p + pats_times ps

  abbrev pub list_times : List ℕ → ℕ
  list_times [] = 0
  list_times (x ∷ xs) = h x + list_times xs

  abbrev mutual
    pub times : Exp → ℕ
    times (constant_exp l t) = 0
    times (variable_exp x ts t) = 0
    times (own_exp x t) = 0
    times (con_exp c y ts t) = 0
    times (ref_exp a t) = 0
    times (exn_exp x t) = 0
    times (prim_exp p ts t) = 0
    times (fields_exp t fs) = fields_times fs
    times (let_exp t ds e) = decs_times ds + times e
    times (app_exp place t f a) = times f + times a
    times (case_exp place t e rs) = times e + rules_times rs
    times (chain_exp b t c) = chain_times c
    times (handle_exp t e rs) = times e + rules_times rs
    times (raise_exp t e) = times e
    times (fn_exp t f) = fun_times f
    times (counted_exp n t e) = times e

    pub fields_times : Fields → ℕ
    fields_times no_fields = 0
    fields_times (a_field l e fs) = times e + fields_times fs

    pub chain_times : Chain → ℕ
    chain_times (only e) = times e
    chain_times (link e c) = times e + chain_times c

    pub rules_times : Rules → ℕ
    rules_times no_rules = 0
    rules_times (a_rule p e rs) = pat_times p + (times e + rules_times rs)

    pub fun_times : Fun → ℕ
    fun_times (last x t e) = h x + times e
    fun_times (by_rules place t u rs) = rules_times rs
    fun_times (more x t f) = h x + fun_times f

    pub decs_times : Decs → ℕ
    decs_times no_decs = 0
    decs_times (val_dec qs bs fs ds) = binds_times bs + (funs_times fs + decs_times ds)
    decs_times (exception_dec x i t ds) = h x + decs_times ds
    decs_times (counted_dec n ds) = decs_times ds

    pub binds_times : Binds → ℕ
    binds_times no_binds = 0
    binds_times (a_bind place b p t e bs) = pat_times p + (times e + binds_times bs)

    pub funs_times : Funs → ℕ
    funs_times no_funs = 0
    funs_times (a_fun xs t f fs) = list_times xs + (fun_times f + funs_times fs)

-- each variable is bound once
abbrev pub IsOnce : Decs → Type 0
IsOnce ds = (x : ℕ) → decs_times (hit x) ds ≤ 1
