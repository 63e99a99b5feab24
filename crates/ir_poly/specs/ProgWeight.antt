-- How many nodes of the source a tree with source matches stands for.
use Rattle.std.specs.Prelude.{ℕ, ◌+◌}
use Rattle.ir_poly.specs.Prog.{Exp, constant_exp, variable_exp, own_exp, con_exp, ref_exp, exn_exp, prim_exp, fields_exp, let_exp, app_exp, case_exp, chain_exp, handle_exp, raise_exp, fn_exp, counted_exp, Fields, no_fields, a_field, Chain, only, link, Rules, no_rules, a_rule, Fun, last, by_rules, more, Decs, no_decs, val_dec, exception_dec, counted_dec, Binds, no_binds, a_bind, Funs, no_funs, a_fun}

abbrev mutual
  pub weight : Exp → ℕ
  weight (constant_exp l t) = 0
  weight (variable_exp x ts t) = 0
  weight (own_exp x t) = 0
  weight (con_exp c y ts t) = 0
  weight (ref_exp a t) = 0
  weight (exn_exp x t) = 0
  weight (prim_exp p ts t) = 0
  weight (fields_exp t fs) = fields_weight fs
  weight (let_exp t ds e) = decs_weight ds + weight e
  weight (app_exp place t f a) = weight f + weight a
  weight (case_exp place t e rs) = weight e + rules_weight rs
  weight (chain_exp b t c) = chain_weight c
  weight (handle_exp t e rs) = weight e + rules_weight rs
  weight (raise_exp t e) = weight e
  weight (fn_exp t f) = fun_weight f
  weight (counted_exp n t e) = n + weight e

  pub fields_weight : Fields → ℕ
  fields_weight no_fields = 0
  fields_weight (a_field l e fs) = weight e + fields_weight fs

  pub chain_weight : Chain → ℕ
  chain_weight (only e) = weight e
  chain_weight (link e c) = weight e + chain_weight c

  pub rules_weight : Rules → ℕ
  rules_weight no_rules = 0
  rules_weight (a_rule p e rs) = weight e + rules_weight rs

  pub fun_weight : Fun → ℕ
  fun_weight (last x t e) = weight e
  fun_weight (by_rules place t u rs) = rules_weight rs
  fun_weight (more x t f) = fun_weight f

  pub decs_weight : Decs → ℕ
  decs_weight no_decs = 0
  decs_weight (val_dec qs bs fs ds) = binds_weight bs + (funs_weight fs + decs_weight ds)
  decs_weight (exception_dec x i t ds) = decs_weight ds
  decs_weight (counted_dec n ds) = n + decs_weight ds

  pub binds_weight : Binds → ℕ
  binds_weight no_binds = 0
  binds_weight (a_bind place b p t e bs) = weight e + binds_weight bs

  pub funs_weight : Funs → ℕ
  funs_weight no_funs = 0
  funs_weight (a_fun xs t f fs) = fun_weight f + funs_weight fs
