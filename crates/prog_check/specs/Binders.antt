-- The variables that a program binds, in the order in which they stand, and whether none stands twice.
use Rattle.std.specs.Prelude.{ℕ, Bool, true, false, not, ◌&&◌, ◌||◌, List, [], ◌∷◌, ◌++◌, nat_eq}
use Rattle.ir_poly.specs.Prog.{Pat, any_pat, variable_pat, constant_pat, con_pat, con_of_pat, ref_of_pat, exn_pat, exn_of_pat, fields_pat, as_pat, PatFields, no_pats, a_pat, Exp, constant_exp, variable_exp, own_exp, con_exp, ref_exp, exn_exp, prim_exp, fields_exp, let_exp, app_exp, case_exp, chain_exp, handle_exp, raise_exp, fn_exp, counted_exp, Fields, no_fields, a_field, Chain, only, link, Rules, no_rules, a_rule, Fun, last, by_rules, more, Decs, no_decs, val_dec, exception_dec, counted_dec, Binds, no_binds, a_bind, Funs, no_funs, a_fun}

abbrev mutual
  pub pat_binders : Pat → List ℕ
  pat_binders any_pat = []
  pat_binders (variable_pat x) = x ∷ []
  pat_binders (constant_pat l) = []
  pat_binders (con_pat c) = []
  pat_binders (con_of_pat c a p) = pat_binders p
  pat_binders (ref_of_pat a p) = pat_binders p
  pat_binders (exn_pat x) = []
  pat_binders (exn_of_pat x a p) = pat_binders p
  pat_binders (fields_pat further ps) = pats_binders ps
  pat_binders (as_pat x p) = x ∷ pat_binders p

  pub pats_binders : PatFields → List ℕ
  pats_binders no_pats = []
  pats_binders (a_pat l a p ps) = pat_binders p ++ pats_binders ps

abbrev mutual
  pub binders : Exp → List ℕ
  binders (constant_exp l t) = []
  binders (variable_exp x ts t) = []
  binders (own_exp x t) = []
  binders (con_exp c y ts t) = []
  binders (ref_exp a t) = []
  binders (exn_exp x t) = []
  binders (prim_exp p ts t) = []
  binders (fields_exp t fs) = fields_binders fs
  binders (let_exp t ds e) = decs_binders ds ++ binders e
  binders (app_exp place t f a) = binders f ++ binders a
  binders (case_exp place t e rs) = binders e ++ rules_binders rs
  binders (chain_exp b t c) = chain_binders c
  binders (handle_exp t e rs) = binders e ++ rules_binders rs
  binders (raise_exp t e) = binders e
  binders (fn_exp t f) = fun_binders f
  binders (counted_exp n t e) = binders e

  pub fields_binders : Fields → List ℕ
  fields_binders no_fields = []
  fields_binders (a_field l e fs) = binders e ++ fields_binders fs

  pub chain_binders : Chain → List ℕ
  chain_binders (only e) = binders e
  chain_binders (link e c) = binders e ++ chain_binders c

  pub rules_binders : Rules → List ℕ
  rules_binders no_rules = []
  rules_binders (a_rule p e rs) = pat_binders p ++ (binders e ++ rules_binders rs)

  pub fun_binders : Fun → List ℕ
  fun_binders (last x a e) = x ∷ binders e
  fun_binders (by_rules place a u rs) = rules_binders rs
  fun_binders (more x a f) = x ∷ fun_binders f

  pub decs_binders : Decs → List ℕ
  decs_binders no_decs = []
  decs_binders (val_dec qs bs fs ds) = binds_binders bs ++ (funs_binders fs ++ decs_binders ds)
  decs_binders (exception_dec x i a ds) = x ∷ decs_binders ds
  decs_binders (counted_dec n ds) = decs_binders ds

  pub binds_binders : Binds → List ℕ
  binds_binders no_binds = []
  binds_binders (a_bind place b p t e bs) = pat_binders p ++ (binders e ++ binds_binders bs)

  pub funs_binders : Funs → List ℕ
  funs_binders no_funs = []
  funs_binders (a_fun xs t f fs) = xs ++ (fun_binders f ++ funs_binders fs)

abbrev pub is_in : ℕ → List ℕ → Bool
is_in x [] = false
is_in x (y ∷ ys) = nat_eq x y || is_in x ys

abbrev pub are_distinct : List ℕ → Bool
are_distinct [] = true
are_distinct (x ∷ xs) = not (is_in x xs) && are_distinct xs
