-- The depth of a tree: phrases in each other, brackets and `local` among them. Lists, sequences, chains, rules, bindings and the other
-- declarations aren't counted themselves; several phrases over the same tokens count once.
use Rattle.std.specs.Prelude.{ℕ, suc, max, List, [], ◌∷◌, Option, Some, None}
use Rattle.sml_tree.specs.ReadTree.{Ty, var_ty, record_ty, con_ty, product_ty, arrow_ty, paren_ty, Tys, no_tys, ty, TyFields, no_ty_fields, ty_field, Pat, wild_pat, constant_pat, vid_pat, record_pat, unit_pat, tuple_pat, list_pat, paren_pat, con_pat, chain_pat, typed_pat, as_pat, Pats, no_pats, pat, PatFields, no_pat_fields, pat_field, PatField, labelled, punned, punned_as, PatParts, last_pat_part, pat_part, Head, prefix_head, infix_head, bracket_head, TypeBind, ConBind, DataBind, ExBind, new_exn, same_exn, Exp, constant_exp, vid_exp, record_exp, selector, unit_exp, tuple_exp, list_exp, sequence, paren_exp, let_in, app, chain, typed, handle, raise, if_then, while, case, fn, Exps, no_exps, exp, ExpFields, no_exp_fields, exp_field, Parts, last_part, part, Rules, last_rule, rule, Decs, no_decs, dec, Dec, val_dec, fun_dec, type_dec, datatype_dec, withtype_dec, replicate_dec, exception_dec, local_dec, open_dec, fixity_dec, Binds, last_bind, bind, rec_binds, Funs, last_fun, fun_and, Clauses, last_clause, clause}

abbrev mutual
  pub depth_ty : Ty → ℕ
  depth_ty (var_ty p a) = 1
  depth_ty (record_ty p fs) = suc (depth_ty_fields fs)
  depth_ty (con_ty p ts c) = suc (depth_tys ts)
  depth_ty (product_ty t ts) = suc (max (depth_ty t) (depth_tys ts))
  depth_ty (arrow_ty t ts) = suc (max (depth_ty t) (depth_tys ts))
  depth_ty (paren_ty p t) = suc (depth_ty t)

  pub depth_tys : Tys → ℕ
  depth_tys no_tys = 0
  depth_tys (ty t ts) = max (depth_ty t) (depth_tys ts)

  pub depth_ty_fields : TyFields → ℕ
  depth_ty_fields no_ty_fields = 0
  depth_ty_fields (ty_field l t fs) = max (depth_ty t) (depth_ty_fields fs)

abbrev pub depth_some : Option Ty → ℕ
depth_some None = 0
depth_some (Some t) = depth_ty t

abbrev mutual
  pub depth_pat : Pat → ℕ
  depth_pat (wild_pat p) = 1
  depth_pat (constant_pat p c) = 1
  depth_pat (vid_pat p x) = 1
  depth_pat (record_pat p fs b) = suc (depth_pat_fields fs)
  depth_pat (unit_pat p) = 1
  depth_pat (tuple_pat p as_) = suc (depth_pats as_)
  depth_pat (list_pat p as_) = suc (depth_pats as_)
  depth_pat (paren_pat p a) = suc (depth_pat a)
  depth_pat (con_pat p x a) = suc (depth_pat a)
  depth_pat (chain_pat r a ps) = suc (max (depth_pat a) (depth_pat_parts ps))
  depth_pat (typed_pat a t) = suc (max (depth_pat a) (depth_ty t))
  depth_pat (as_pat p v t a) = suc (max (depth_some t) (depth_pat a))

  pub depth_pats : Pats → ℕ
  depth_pats no_pats = 0
  depth_pats (pat a as_) = max (depth_pat a) (depth_pats as_)

  pub depth_pat_fields : PatFields → ℕ
  depth_pat_fields no_pat_fields = 0
  depth_pat_fields (pat_field f fs) = max (depth_pat_field f) (depth_pat_fields fs)

  pub depth_pat_field : PatField → ℕ
  depth_pat_field (labelled l a) = depth_pat a
  depth_pat_field (punned p x t) = depth_some t
  depth_pat_field (punned_as p x t a) = max (depth_some t) (depth_pat a)

  pub depth_pat_parts : PatParts → ℕ
  depth_pat_parts (last_pat_part x a) = depth_pat a
  depth_pat_parts (pat_part x a ps) = max (depth_pat a) (depth_pat_parts ps)

-- what stands in the brackets of a head counts as it would in a pattern
abbrev pub depth_head : Head → ℕ
depth_head (prefix_head p v a as_) = max (depth_pat a) (depth_pats as_)
depth_head (infix_head a x b) = max (depth_pat a) (depth_pat b)
depth_head (bracket_head p a x b as_) = max (suc (suc (max (depth_pat a) (depth_pat b)))) (depth_pats as_)

abbrev pub depth_type_binds : List TypeBind → ℕ
depth_type_binds [] = 0
depth_type_binds (b ∷ bs) = max (depth_ty b.ty) (depth_type_binds bs)

abbrev pub depth_cons : List ConBind → ℕ
depth_cons [] = 0
depth_cons (c ∷ cs) = max (depth_some c.of_ty) (depth_cons cs)

abbrev pub depth_data_binds : List DataBind → ℕ
depth_data_binds [] = 0
depth_data_binds (b ∷ bs) = max (depth_cons b.cons) (depth_data_binds bs)

abbrev pub depth_ex_binds : List ExBind → ℕ
depth_ex_binds [] = 0
depth_ex_binds (new_exn p v t ∷ bs) = max (depth_some t) (depth_ex_binds bs)
depth_ex_binds (same_exn p v x ∷ bs) = depth_ex_binds bs

abbrev mutual
  pub depth : Exp → ℕ
  depth (constant_exp p c) = 1
  depth (vid_exp p x) = 1
  depth (record_exp p fs) = suc (depth_exp_fields fs)
  depth (selector p l) = 1
  depth (unit_exp p) = 1
  depth (tuple_exp p es) = suc (depth_exps es)
  depth (list_exp p es) = suc (depth_exps es)
  depth (sequence p es) = suc (depth_exps es)
  depth (paren_exp p e) = suc (depth e)
  depth (let_in p ds es) = suc (max (depth_decs ds) (depth_exps es))
  depth (app e a es) = suc (max (depth e) (max (depth a) (depth_exps es)))
  depth (chain r e ps) = suc (max (depth e) (depth_parts ps))
  depth (typed e t) = suc (max (depth e) (depth_ty t))
  depth (handle e rs) = suc (max (depth e) (depth_rules rs))
  depth (raise p e) = suc (depth e)
  depth (if_then p a b c) = suc (max (depth a) (max (depth b) (depth c)))
  depth (while p a b) = suc (max (depth a) (depth b))
  depth (case p e rs) = suc (max (depth e) (depth_rules rs))
  depth (fn p rs) = suc (depth_rules rs)

  pub depth_exps : Exps → ℕ
  depth_exps no_exps = 0
  depth_exps (exp e es) = max (depth e) (depth_exps es)

  pub depth_exp_fields : ExpFields → ℕ
  depth_exp_fields no_exp_fields = 0
  depth_exp_fields (exp_field l e fs) = max (depth e) (depth_exp_fields fs)

  pub depth_parts : Parts → ℕ
  depth_parts (last_part j e) = depth e
  depth_parts (part j e ps) = max (depth e) (depth_parts ps)

  pub depth_rules : Rules → ℕ
  depth_rules (last_rule p e) = max (depth_pat p) (depth e)
  depth_rules (rule p e rs) = max (max (depth_pat p) (depth e)) (depth_rules rs)

  pub depth_decs : Decs → ℕ
  depth_decs no_decs = 0
  depth_decs (dec d ds) = max (depth_dec d) (depth_decs ds)

  pub depth_dec : Dec → ℕ
  depth_dec (val_dec p q as_ bs) = depth_binds bs
  depth_dec (fun_dec p q as_ fs) = depth_funs fs
  depth_dec (type_dec p bs) = depth_type_binds bs
  depth_dec (datatype_dec p bs) = depth_data_binds bs
  depth_dec (withtype_dec p bs cs) = max (depth_data_binds bs) (depth_type_binds cs)
  depth_dec (replicate_dec p x c) = 0
  depth_dec (exception_dec p bs) = depth_ex_binds bs
  depth_dec (local_dec p ds es) = suc (max (depth_decs ds) (depth_decs es))
  depth_dec (open_dec p xs) = 0
  depth_dec (fixity_dec p s xs) = 0

  pub depth_binds : Binds → ℕ
  depth_binds (last_bind p e) = max (depth_pat p) (depth e)
  depth_binds (bind p e bs) = max (max (depth_pat p) (depth e)) (depth_binds bs)
  depth_binds (rec_binds bs) = depth_binds bs

  pub depth_funs : Funs → ℕ
  depth_funs (last_fun cs) = depth_clauses cs
  depth_funs (fun_and cs fs) = max (depth_clauses cs) (depth_funs fs)

  pub depth_clauses : Clauses → ℕ
  depth_clauses (last_clause h t e) = max (max (depth_head h) (depth_some t)) (depth e)
  depth_clauses (clause h t e cs) = max (max (max (depth_head h) (depth_some t)) (depth e)) (depth_clauses cs)
