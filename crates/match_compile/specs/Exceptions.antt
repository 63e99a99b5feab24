-- The identifiers of the exceptions that a program makes, in the order of the text, in front of others.
use Rattle.std.specs.Prelude.{ℕ, List, ◌∷◌}
use Rattle.ir_poly.specs.of_ir_plain.Kind.{Kind}
use Rattle.ir_poly.specs.of_ir_plain.Tree as te
use Rattle.ir_poly.specs.of_ir_plain.Tree.{ret, let_in, exception_in, name_in, rec_in, switch, first, miss, counted, Arms, no_arms, arm, Op, use_of, const, con_alone, construct, ref_alone, refer, content, pack, make_record, select, prim_alone, prim, app, fn, block, handle, raise, raise_initial, fun}
use Rattle.ir_poly.specs.Prog.{Exp, constant_exp, variable_exp, own_exp, con_exp, ref_exp, exn_exp, prim_exp, fields_exp, let_exp, app_exp, case_exp, chain_exp, handle_exp, raise_exp, fn_exp, counted_exp, Fields, no_fields, a_field, Chain, only, link, Rules, no_rules, a_rule, Fun, last, by_rules, more, Decs, no_decs, val_dec, exception_dec, counted_dec, Binds, no_binds, a_bind, Funs, no_funs, a_fun}

abbrev mutual
  pub made : Exp → List ℕ → List ℕ
  made (constant_exp l t) us = us
  made (variable_exp x ts t) us = us
  made (own_exp x t) us = us
  made (con_exp c y ts t) us = us
  made (ref_exp u t) us = us
  made (exn_exp x t) us = us
  made (prim_exp p ts t) us = us
  made (fields_exp t fs) us = fields_made fs us
  made (let_exp t ds e) us = decs_made ds (made e us)
  made (app_exp place t f a) us = made f (made a us)
  made (case_exp place t e rs) us = made e (rules_made rs us)
  made (chain_exp b t c) us = chain_made c us
  made (handle_exp t e rs) us = made e (rules_made rs us)
  made (raise_exp t e) us = made e us
  made (fn_exp t f) us = fun_made f us
  made (counted_exp k t e) us = made e us

  pub fields_made : Fields → List ℕ → List ℕ
  fields_made no_fields us = us
  fields_made (a_field l e fs) us = made e (fields_made fs us)

  pub chain_made : Chain → List ℕ → List ℕ
  chain_made (only e) us = made e us
  chain_made (link e c) us = made e (chain_made c us)

  pub rules_made : Rules → List ℕ → List ℕ
  rules_made no_rules us = us
  rules_made (a_rule p e rs) us = made e (rules_made rs us)

  pub fun_made : Fun → List ℕ → List ℕ
  fun_made (last x t e) us = made e us
  fun_made (by_rules place t u rs) us = rules_made rs us
  fun_made (more x t f) us = fun_made f us

  pub decs_made : Decs → List ℕ → List ℕ
  decs_made no_decs us = us
  decs_made (val_dec qs bs fs ds) us = binds_made bs (funs_made fs (decs_made ds us))
  decs_made (exception_dec x identifier t ds) us = identifier ∷ decs_made ds us
  decs_made (counted_dec k ds) us = decs_made ds us

  pub binds_made : Binds → List ℕ → List ℕ
  binds_made no_binds us = us
  binds_made (a_bind place b p t e bs) us = made e (binds_made bs us)

  pub funs_made : Funs → List ℕ → List ℕ
  funs_made no_funs us = us
  funs_made (a_fun xs t f fs) us = fun_made f (funs_made fs us)

-- of tests
module _ {F : Kind} where
  abbrev mutual
    pub tests_made : te.Exp F → List ℕ → List ℕ
    tests_made (ret a) us = us
    tests_made (let_in x ps t o e) us = op_made o (tests_made e us)
    tests_made (exception_in x identifier t e) us = identifier ∷ tests_made e us
    tests_made (name_in x y e) us = tests_made e us
    tests_made (rec_in ps fs e) us = te_funs_made fs (tests_made e us)
    tests_made (switch a t arms) us = arms_made arms us
    tests_made (first e d) us = tests_made e (tests_made d us)
    tests_made miss us = us
    tests_made (counted n e) us = tests_made e us

    pub arms_made : Arms F → List ℕ → List ℕ
    arms_made no_arms us = us
    arms_made (arm c e arms) us = tests_made e (arms_made arms us)

    pub op_made : Op F → List ℕ → List ℕ
    op_made (use_of x) us = us
    op_made (const l) us = us
    op_made (con_alone c t) us = us
    op_made (construct m c t a) us = us
    op_made (ref_alone t) us = us
    op_made (refer m t a) us = us
    op_made (content t a) us = us
    op_made (pack m t x a) us = us
    op_made (make_record t row) us = us
    op_made (select t l a) us = us
    op_made (prim_alone p t) us = us
    op_made (prim m p t as_) us = us
    op_made (app place f a) us = us
    op_made (fn f) us = te_fun_made f us
    op_made (block e) us = tests_made e us
    op_made (handle e x d) us = tests_made e (tests_made d us)
    op_made (raise a) us = us
    op_made (raise_initial i) us = us

    pub te_fun_made : te.Fun F → List ℕ → List ℕ
    te_fun_made (te.last x t e) us = tests_made e us
    te_fun_made (te.more x t f) us = te_fun_made f us

    pub te_funs_made : te.Funs F → List ℕ → List ℕ
    te_funs_made te.no_funs us = us
    te_funs_made (fun x t f fs) us = te_fun_made f (te_funs_made fs us)
