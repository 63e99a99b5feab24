-- Places and names of derived forms are those of their parts.
use Rattle.std.proofs.Common.{ℕ, suc, List, [], ◌∷◌, Option, Some, None}
use Rattle.std.specs.Prelude.{⊤}
use Rattle.std.specs.List.{AllByRecursion}
use Rattle.mlc_names.specs.declared.label.Label.{Label}
use Rattle.mlc_base.specs.declared.place.Place.{Place}
use Rattle.sml_tree.specs.declared.ident.BuiltIn.TheVariants.{True, False}
use Rattle.sml_tree.specs.declared.tree.Joint.{Joint}
use Rattle.sml_tree.specs.declared.tree.Joint.TheVariants.{AndAlso, OrElse, Infix}
use Rattle.sml_tree.specs.BareTree.{Ty, Pat, wild_pat, built_pat, Exp, built_exp, app, Rules, no_rules, rule}
use Rattle.sml_tree.specs.Derived.{fresh_exp, numbered, numbered_pats, tuple, tuple_pat, unit, app_of, join, select, case_of, if_of, sequence_of, while_of, list_of, Clause, one_or_tuple_pat, one_or_tuple, clause_rules, fresh_for, fn_for, first_pats, fun_of, Function, function_binds, with_result}
use Rattle.mlb_reader.specs.Within.{VidIn, PatIn, PatFieldsIn, ExpIn, ExpFieldsIn, RulesIn, BindsIn}

module _ (P : Place → Type 0) (N : ℕ → Type 0) where
  abbrev pub AreExps : List Exp → Type 0
  AreExps = AllByRecursion (ExpIn P N)

  abbrev pub ArePats : List Pat → Type 0
  ArePats = AllByRecursion (PatIn P N)

  abbrev pub JointIn : Joint → Type 0
  JointIn AndAlso = ⊤
  JointIn OrElse = ⊤
  JointIn (Infix q v) = P q × VidIn P N v

  numbered-in : (k : ℕ) (es : List Exp) → AreExps es → ExpFieldsIn P N (numbered k es)
  numbered-in k [] gs = tt
  numbered-in k (e ∷ es) gs = (gs.0, numbered-in (suc k) es gs.1)

  pub tuple-in : (p : Place) (es : List Exp) → P p → AreExps es → ExpIn P N (tuple p es)
  tuple-in p es h gs = (h, numbered-in 1 es gs)

  pub app_of-in : (p : Place) (e : Exp) (es : List Exp) → P p → ExpIn P N e → AreExps es → ExpIn P N (app_of p e es)
  app_of-in p e [] h g gs = g
  app_of-in p e (a ∷ as_) h g gs = app_of-in p (app p e a) as_ h (h, g, gs.0) gs.1

  pub select-in : (p : Place) (l : Label) → P p → ExpIn P N (select p l)
  select-in p l h = (h, (h, (h, ((h, tt), tt)), (h, tt), tt))

  pub case-in : (p : Place) (e : Exp) (rs : Rules) → P p → ExpIn P N e → RulesIn P N rs → ExpIn P N (case_of p e rs)
  case-in p e rs h ge gs = (h, (h, gs), ge)

  pub if-in : (p : Place) (a b c : Exp) → P p → ExpIn P N a → ExpIn P N b → ExpIn P N c → ExpIn P N (if_of p a b c)
  if-in p a b c h ga gb gc = case-in p a (rule p (built_pat p True) b (rule p (built_pat p False) c no_rules)) h ga (h, h, gb, (h, h, gc, tt))

  pub join-in : (j : Joint) (p : Place) (a b : Exp) → P p → JointIn j → ExpIn P N a → ExpIn P N b → ExpIn P N (join j p a b)
  join-in AndAlso p a b h gj ga gb = if-in p a b (built_exp p False) h ga gb h
  join-in OrElse p a b h gj ga gb = if-in p a (built_exp p True) b h ga h gb
  join-in (Infix q v) p a b h gj ga gb = (h, gj, tuple-in p (a ∷ b ∷ []) h (ga, (gb, tt)))

  pub sequence-in : (p : Place) (e : Exp) (es : List Exp) → P p → ExpIn P N e → AreExps es → ExpIn P N (sequence_of p e es)
  sequence-in p e [] h g gs = g
  sequence-in p e (f ∷ fs) h g gs = case-in p e (rule p (wild_pat p) (sequence_of p f fs) no_rules) h g (h, h, sequence-in p f fs h gs.0 gs.1, tt)

  pub while-in : (p : Place) (a b : Exp) → P p → ExpIn P N a → ExpIn P N b → ExpIn P N (while_of p a b)
  while-in p a b h ga gb =
      let call : ExpIn P N (app p (fresh_exp p 0) (unit p)) = (h, (h, tt), (h, tt)) in
      let turn = if-in p a (sequence_of p b (app p (fresh_exp p 0) (unit p) ∷ [])) (unit p) h ga (sequence-in p b (app p (fresh_exp p 0) (unit p) ∷ []) h gb (call, tt)) (h, tt) in
      (h, ((h, h, tt, (h, (h, tt), (h, (h, (h, tt), turn, tt)), tt)), tt), call)

  pub list-in : (p : Place) (es : List Exp) → P p → AreExps es → ExpIn P N (list_of p es)
  list-in p [] h gs = h
  list-in p (e ∷ es) h gs = (h, h, tuple-in p (e ∷ list_of p es ∷ []) h (gs.0, (list-in p es h gs.1, tt)))

  pub with_result-in : (p : Place) (e : Exp) (t : Option Ty) → P p → ExpIn P N e → ExpIn P N (with_result p e t)
  with_result-in p e None h g = g
  with_result-in p e (Some t) h g = (h, g)

  -- Functions of `fun`.

  abbrev pub ClauseIn : Clause → Type 0
  ClauseIn c = P c.place × AllByRecursion (PatIn P N) c.pats × ExpIn P N c.body

  abbrev pub FunctionIn : Function → Type 0
  FunctionIn g = P g.place × P g.vid_place × VidIn P N g.vid × AllByRecursion ClauseIn g.clauses

  numbered_pats-in : (k : ℕ) (as_ : List Pat) → ArePats as_ → PatFieldsIn P N (numbered_pats k as_)
  numbered_pats-in k [] gs = tt
  numbered_pats-in k (a ∷ as_) gs = (gs.0, numbered_pats-in (suc k) as_ gs.1)

  pub tuple_pat-in : (p : Place) (as_ : List Pat) → P p → ArePats as_ → PatIn P N (tuple_pat p as_)
  tuple_pat-in p as_ h gs = (h, numbered_pats-in 1 as_ gs)

  one_or_tuple_pat-in : (p : Place) (as_ : List Pat) → P p → ArePats as_ → PatIn P N (one_or_tuple_pat p as_)
  one_or_tuple_pat-in p [] h gs = (h, tt)
  one_or_tuple_pat-in p (a ∷ []) h gs = gs.0
  one_or_tuple_pat-in p (a ∷ b ∷ as_) h gs = tuple_pat-in p (a ∷ b ∷ as_) h gs

  one_or_tuple-in : (p : Place) (es : List Exp) → P p → AreExps es → ExpIn P N (one_or_tuple p es)
  one_or_tuple-in p [] h gs = (h, tt)
  one_or_tuple-in p (e ∷ []) h gs = gs.0
  one_or_tuple-in p (e ∷ f ∷ es) h gs = tuple-in p (e ∷ f ∷ es) h gs

  clause_rules-in : (cs : List Clause) → AllByRecursion ClauseIn cs → RulesIn P N (clause_rules cs)
  clause_rules-in [] gs = tt
  clause_rules-in (c ∷ cs) gs = (gs.0.0, one_or_tuple_pat-in c.place c.pats gs.0.0 gs.0.1, gs.0.2, clause_rules-in cs gs.1)

  fresh_for-in : (p : Place) (k : ℕ) (as_ : List Pat) → P p → AreExps (fresh_for p k as_)
  fresh_for-in p k [] h = tt
  fresh_for-in p k (a ∷ as_) h = ((h, tt), fresh_for-in p (suc k) as_ h)

  fn_for-in : (p : Place) (k : ℕ) (as_ : List Pat) (e : Exp) → P p → ExpIn P N e → ExpIn P N (fn_for p k as_ e)
  fn_for-in p k [] e h g = g
  fn_for-in p k (a ∷ as_) e h g = (h, (h, (h, tt), fn_for-in p (suc k) as_ e h g, tt))

  fun_of-in : (p : Place) (cs : List Clause) → P p → AllByRecursion ClauseIn cs → ExpIn P N (fun_of p cs)
  fun_of-in p cs h gs =
      let tried = one_or_tuple-in p (fresh_for p 1 (first_pats cs)) h (fresh_for-in p 1 (first_pats cs) h) in
      fn_for-in p 1 (first_pats cs) (case_of p (one_or_tuple p (fresh_for p 1 (first_pats cs))) (clause_rules cs)) h
      (case-in p (one_or_tuple p (fresh_for p 1 (first_pats cs))) (clause_rules cs) h tried (clause_rules-in cs gs))

  pub function_binds-in : (gs : List Function) → AllByRecursion FunctionIn gs → BindsIn P N (function_binds gs)
  function_binds-in [] hs = tt
  function_binds-in (g ∷ gs) hs = (hs.0.0, (hs.0.1, hs.0.2), fun_of-in g.place g.clauses hs.0.0 hs.0.3, function_binds-in gs hs.1)
