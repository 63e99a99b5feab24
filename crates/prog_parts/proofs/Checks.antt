-- Whether nodes with lists are right, part by part.
use Rattle.std.proofs.Common.{◌≡◌, ℕ, Bool, true, false, ◌&&◌, List, [], ◌∷◌, ◌++◌, map, if◌then◌else◌, Vec, Box, Global, refl, sym, ap, ◌∙◌}
use Rattle.std.proofs.lemmas.Bool.{and_right}
use Rattle.mlc_names.specs.declared.label.Label.{Label}
use Rattle.mlc_names.specs.declared.label.Label.TheVariants.{Number}
use Rattle.mlc_base.specs.declared.place.Place.{Place}
use Rattle.ty_core.specs.Types.{Typ}
use Rattle.ty_core.specs.declared.scheme.Quantified.{Quantified}
use Rattle.ty_table.specs.TypeAt.{type_at}
use Rattle.ir_poly.specs.Prog as tree
use Rattle.ir_poly.specs.Prog.{type_of, is_value}
use Rattle.ir_poly.specs.ProgChecked.{pat_onto, funs_onto, binds_onto}
use Rattle.ir_poly.specs.Types.{of_name, bool_name, function_type, row_type, labels_in, ascend, sorted, over, are_new}
use Rattle.ir_poly.specs.TestsChecked.{Knowns, of_type, own, declared}
use Rattle.ir_tables.specs.declared.tables.Tables.{Tables}
use Rattle.ir_tables.specs.Tables.{parameters_of, parameters_at}
use Rattle.prog_known.specs.Environments.{table_in}
use Rattle.prog_check.specs.Same.{same_type}
use Rattle.prog_check.specs.Checking.{check_pat, check_exp, check_fields, check_chain, check_rules, check_fun, check_decs, check_binds, check_funs, decs_onto, fun_type, row_of}
use Rattle.prog_check.proofs.SameLemmas.{same-since}
use Rattle.prog_known.specs.Lists.{run, hold, all_hold}
use Rattle.prog_tree.specs.Readings.{reading}
use Rattle.prog_tree.specs.TreeOf.{RuleTree, DecTree, val_tree, exception_tree, counted_tree, pat_of, tree_of, function_of, dec_of, rule_of, record_of, rules_of, chain_of, sequence_of, apply_by, join, left_joins, right_joins, put, decs_of, binds_by, funs_by, after_parameters, field_of, argument_of, join_of, bind_of, fun_of}
use Rattle.prog_tree.specs.declared.tree.Binding.{Binding}
use Rattle.prog_tree.specs.declared.tree.Dec.{Dec}
use Rattle.prog_tree.specs.declared.tree.Dec.TheVariants as decs
use Rattle.prog_tree.specs.declared.tree.Exp.{Exp}
use Rattle.prog_tree.specs.declared.tree.Exp.TheVariants as exps
use Rattle.prog_tree.specs.declared.tree.Function.{Function}
use Rattle.prog_tree.specs.declared.tree.Function.TheVariants as functions
use Rattle.prog_tree.specs.declared.tree.Join.{Join}
use Rattle.prog_tree.specs.declared.tree.Parameter.{Parameter}
use Rattle.prog_tree.specs.declared.tree.Rule.{Rule}
use Rattle.prog_tree.specs.declared.tree.Side.{Side}
use Rattle.prog_tree.specs.declared.tree.Side.TheVariants as side
use Rattle.prog_tree.proofs.ExpOf.{tree_of-Record, tree_of-Let, tree_of-Apply, tree_of-Infix, tree_of-Case, tree_of-Sequence, tree_of-Test, tree_of-Handle, function_of-Named, function_of-ByRules, dec_of-Val, rule_of-parts}
use Rattle.prog_parts.specs.Expressions.{type_in, right_type, join_next, argument_next, parameter_onto, exp_holds, field_holds, argument_holds, join_holds, dropped_holds, last_holds, operand_holds, rule_holds, function_holds, member_holds, bound_holds, body_holds, plain_holds, inner_holds, parameter_holds, tree_holds, dec_holds, tree_onto, dec_onto, dec_step}

-- Truth values

and-true : (a : Bool) → (a && true) ≡ a
and-true true = refl
and-true false = refl

pub and-assoc : (a b c : Bool) → ((a && b) && c) ≡ (a && (b && c))
and-assoc true b c = refl
and-assoc false b c = refl

applying : (f a s r : Bool) → ((f && (a && s)) && r) ≡ (f && ((a && s) && r))
applying true a s r = refl
applying false a s r = refl

-- an operator between operands: f, the operands d and e, the pair's type p, the operator's type s
left-joining : (f d e p s r : Bool) → ((f && (((d && (e && true)) && p) && s)) && r) ≡ (d && (((f && e) && (p && s)) && r))
left-joining true true true p s r = refl
left-joining true true false p s r = refl
left-joining true false e p s r = refl
left-joining false true e p s r = refl
left-joining false false e p s r = refl

right-joining : (f d e p s r : Bool) → (f && (((d && ((e && r) && true)) && p) && s)) ≡ (d && (((f && e) && (p && s)) && r))
right-joining true true true true true true = refl
right-joining true true true true true false = refl
right-joining true true true true false r = by r
  where
    by : (r : Bool) → (((r && true) && true) && false) ≡ false
    by true = refl
    by false = refl
right-joining true true true false s r = by r
  where
    by : (r : Bool) → (((r && true) && false) && s) ≡ false
    by true = refl
    by false = refl
right-joining true true false p s r = refl
right-joining true false e p s r = refl
right-joining false true e p s r = refl
right-joining false false e p s r = refl

dropping : (d o x s : Bool) → (d && (o && (true && (x && (s && true))))) ≡ ((d && o) && (x && s))
dropping false o x s = refl
dropping true false x s = refl
dropping true true false s = refl
dropping true true true true = refl
dropping true true true false = refl

ruled : (p e s r : Bool) → (p && (e && (s && r))) ≡ ((p && (e && s)) && r)
ruled false e s r = refl
ruled true false s r = refl
ruled true true s r = refl

declaring : (n b f r : Bool) → (n && (b && (f && r))) ≡ ((n && (b && f)) && r)
declaring = ruled

-- what is asked of a generalised binding, and of another: v that it is a value, o and p of its pattern, e and s of what it binds
general-binding : (v o p e s r : Bool) → (v && (o && (p && (e && (s && r))))) ≡ (true && (((v && (o && p)) && (e && s)) && r))
general-binding false o p e s r = refl
general-binding true false p e s r = refl
general-binding true true false e s r = refl
general-binding true true true false s r = refl
general-binding true true true true s r = refl

plain-binding : (o p e s r : Bool) → (o && (p && (e && (s && r)))) ≡ ((o && p) && ((true && (e && s)) && r))
plain-binding false p e s r = refl
plain-binding true false e s r = refl
plain-binding true true false s r = refl
plain-binding true true true s r = refl

shuffled : (x y a b : Bool) → (x && (y && (a && b))) ≡ ((x && a) && (y && b))
shuffled false y a b = refl
shuffled true false a b = sym (and_right a false refl)
shuffled true true a b = refl

module _ (t : Tables) (D : List Quantified) (G : Knowns) where
  abbrev checks : tree.Exp → Bool
  checks e = check_exp (table_in t) D G e

  -- Records

  fields-hold : (fs : List (Label × Exp)) → check_fields (table_in t) D G (record_of (map (field_of (reading t)) fs)) ≡ all_hold (field_holds t D G) fs
  fields-hold [] = refl
  fields-hold (f ∷ fs) = ap (λ b. exp_holds t D G f.1 && b) (fields-hold fs)

  rows : (fs : List (Label × Exp)) → row_of (record_of (map (field_of (reading t)) fs)) ≡ map (λ f. (f.0, type_in t f.1)) fs
  rows [] = refl
  rows (f ∷ fs) = ap (λ r. (f.0, type_in t f.1) ∷ r) (rows fs)

  pub record-holds : (a : ℕ) (fs : Vec (Label × Exp) Global)
      → exp_holds t D G (exps.Record a fs)
      ≡ (all_hold (field_holds t D G) fs.items
      && (ascend (labels_in (sorted (map (λ f. (f.0, type_in t f.1)) fs.items)))
      && same_type (type_at t.types a) (row_type (sorted (map (λ f. (f.0, type_in t f.1)) fs.items)))))
  record-holds a fs =
      ap checks (tree_of-Record (reading t) a fs)
      ∙ ap (λ b. b && (ascend (labels_in (sorted (row_of (record_of (map (field_of (reading t)) fs.items)))))
      && same_type (type_at t.types a) (row_type (sorted (row_of (record_of (map (field_of (reading t)) fs.items)))))))
      (fields-hold fs.items)
      ∙ ap (λ r. all_hold (field_holds t D G) fs.items && (ascend (labels_in (sorted r)) && same_type (type_at t.types a) (row_type (sorted r)))) (rows fs.items)

  -- Applications

  arguments-hold : (p : Place) (f : tree.Exp) (as_ : List (ℕ × Exp))
      → checks (apply_by (type_at t.types) p f (map (argument_of (reading t)) as_)) ≡ (checks f && hold (argument_holds t D G) (argument_next t) (type_of f) as_)
  arguments-hold p f [] = sym (and-true (checks f))
  arguments-hold p f (a ∷ as_) =
      arguments-hold p (tree.app_exp p (type_at t.types a.0) f (tree_of (reading t) a.1)) as_
      ∙ applying (checks f) (exp_holds t D G a.1) (same_type (type_of f) (function_type (type_in t a.1) (type_at t.types a.0))) (hold (argument_holds t D G) (argument_next t) (type_at t.types a.0) as_)

  pub apply-holds : (p : Place) (f : Box Exp Global) (as_ : Vec (ℕ × Exp) Global)
      → exp_holds t D G (exps.Apply p f as_) ≡ (exp_holds t D G f.value && hold (argument_holds t D G) (argument_next t) (type_in t f.value) as_.items)
  apply-holds p f as_ = ap checks (tree_of-Apply (reading t) p f as_) ∙ arguments-hold p (tree_of (reading t) f.value) as_.items

  -- Operators

  left-hold : (e : tree.Exp) (js : List (Join × Exp × Exp))
      → checks (left_joins (type_at t.types) e (map (join_of (reading t)) js)) ≡ (checks e && hold (join_holds t D G side.Left) (join_next t side.Left) (type_of e) js)
  left-hold e [] = sym (and-true (checks e))
  left-hold e (j ∷ js) =
      left-hold (join (type_at t.types) j.0 (tree_of (reading t) j.1) e (tree_of (reading t) j.2)) js
      ∙ left-joining (exp_holds t D G j.1) (checks e) (exp_holds t D G j.2) (same_type (type_at t.types j.0.pair) (row_type ((Number 1, type_of e) ∷ (Number 2, type_in t j.2) ∷ [])))
      (same_type (type_in t j.1) (function_type (type_at t.types j.0.pair) (type_at t.types j.0.ty))) (hold (join_holds t D G side.Left) (join_next t side.Left) (type_at t.types j.0.ty) js)

  typed-right : (j : Join × Exp × Exp) (js : List (Join × Exp × Exp)) → type_of (right_joins (type_at t.types) (tree_of (reading t) j.2) (map (join_of (reading t)) js)) ≡ right_type t side.Right j js
  typed-right j [] = refl
  typed-right j (k ∷ js) = refl

  right-hold : (e : tree.Exp) (js : List (Join × Exp × Exp))
      → checks (right_joins (type_at t.types) e (map (join_of (reading t)) js)) ≡ (checks e && hold (join_holds t D G side.Right) (join_next t side.Right) (type_of e) js)
  right-hold e [] = sym (and-true (checks e))
  right-hold e (j ∷ js) =
      ap (λ u. exp_holds t D G j.1 && (((checks e && (checks (right_joins (type_at t.types) (tree_of (reading t) j.2) (map (join_of (reading t)) js)) && true))
      && same_type (type_at t.types j.0.pair) (row_type ((Number 1, type_of e) ∷ (Number 2, u) ∷ [])))
      && same_type (type_in t j.1) (function_type (type_at t.types j.0.pair) (type_at t.types j.0.ty)))) (typed-right j js)
      ∙ ap (λ b. exp_holds t D G j.1 && (((checks e && (b && true)) && same_type (type_at t.types j.0.pair) (row_type ((Number 1, type_of e) ∷ (Number 2, right_type t side.Right j js) ∷ [])))
      && same_type (type_in t j.1) (function_type (type_at t.types j.0.pair) (type_at t.types j.0.ty)))) (right-hold (tree_of (reading t) j.2) js)
      ∙ right-joining (exp_holds t D G j.1) (checks e) (exp_holds t D G j.2) (same_type (type_at t.types j.0.pair) (row_type ((Number 1, type_of e) ∷ (Number 2, right_type t side.Right j js) ∷ [])))
      (same_type (type_in t j.1) (function_type (type_at t.types j.0.pair) (type_at t.types j.0.ty))) (hold (join_holds t D G side.Right) (join_next t side.Right) (type_in t j.2) js)

  pub infix-holds : (s : Side) (e : Box Exp Global) (js : Vec (Join × Exp × Exp) Global)
      → exp_holds t D G (exps.Infix s e js) ≡ (exp_holds t D G e.value && hold (join_holds t D G s) (join_next t s) (type_in t e.value) js.items)
  infix-holds side.Left e js = ap checks (tree_of-Infix (reading t) side.Left e js) ∙ left-hold (tree_of (reading t) e.value) js.items
  infix-holds side.Right e js = ap checks (tree_of-Infix (reading t) side.Right e js) ∙ right-hold (tree_of (reading t) e.value) js.items

  -- Sequences and tests

  sequence-type : (p : Place) (a : Typ) (d : Exp) (es : List Exp) (e : Exp)
      → (checks (sequence_of p a (map (tree_of (reading t)) es) (tree_of (reading t) e)) && same_type (type_of (sequence_of p a (map (tree_of (reading t)) es) (tree_of (reading t) e))) a)
      ≡ (all_hold (dropped_holds t D G) es && (exp_holds t D G e && same_type (type_in t e) a))
  sequence-type p a d [] e = refl
  sequence-type p a d (d' ∷ es) e =
      ap (λ b. checks (sequence_of p a (map (tree_of (reading t)) (d' ∷ es)) (tree_of (reading t) e)) && b) (same-since {t = a} {u = a} refl)
      ∙ and-true (checks (sequence_of p a (map (tree_of (reading t)) (d' ∷ es)) (tree_of (reading t) e)))
      ∙ dropping (exp_holds t D G d') (over D (type_in t d')) (checks (sequence_of p a (map (tree_of (reading t)) es) (tree_of (reading t) e)))
      (same_type (type_of (sequence_of p a (map (tree_of (reading t)) es) (tree_of (reading t) e))) a)
      ∙ ap (λ b. (exp_holds t D G d' && over D (type_in t d')) && b) (sequence-type p a d es e)
      ∙ sym (and-assoc (exp_holds t D G d' && over D (type_in t d')) (all_hold (dropped_holds t D G) es) (exp_holds t D G e && same_type (type_in t e) a))

  sequenced : (p : Place) (a : ℕ) (es : List Exp) (e : Exp)
      → checks (sequence_of p (type_at t.types a) (map (tree_of (reading t)) es) (tree_of (reading t) e)) ≡ (all_hold (dropped_holds t D G) es && last_holds t D G a es e)
  sequenced p a [] e = refl
  sequenced p a (d ∷ es) e =
      dropping (exp_holds t D G d) (over D (type_in t d)) (checks (sequence_of p (type_at t.types a) (map (tree_of (reading t)) es) (tree_of (reading t) e)))
      (same_type (type_of (sequence_of p (type_at t.types a) (map (tree_of (reading t)) es) (tree_of (reading t) e))) (type_at t.types a))
      ∙ ap (λ b. (exp_holds t D G d && over D (type_in t d)) && b) (sequence-type p (type_at t.types a) d es e)
      ∙ sym (and-assoc (exp_holds t D G d && over D (type_in t d)) (all_hold (dropped_holds t D G) es) (exp_holds t D G e && same_type (type_in t e) (type_at t.types a)))

  pub sequence-holds : (p : Place) (a : ℕ) (es : Vec Exp Global) (e : Box Exp Global)
      → exp_holds t D G (exps.Sequence p a es e) ≡ (all_hold (dropped_holds t D G) es.items && last_holds t D G a es.items e.value)
  sequence-holds p a es e = ap checks (tree_of-Sequence (reading t) p a es e) ∙ sequenced p a es.items e.value

  tests-hold : (es : List Exp) (e : Exp)
      → check_chain (table_in t) D G (chain_of (map (tree_of (reading t)) es) (tree_of (reading t) e)) ≡ (all_hold (operand_holds t D G) es && operand_holds t D G e)
  tests-hold [] e = refl
  tests-hold (d ∷ es) e =
      ap (λ b. exp_holds t D G d && (same_type (type_in t d) (of_name bool_name) && b)) (tests-hold es e)
      ∙ ruled (exp_holds t D G d) (same_type (type_in t d) (of_name bool_name)) (all_hold (operand_holds t D G) es) (operand_holds t D G e)
      ∙ ap (λ b. b && operand_holds t D G e) (sym (and-assoc (exp_holds t D G d) (same_type (type_in t d) (of_name bool_name)) (all_hold (operand_holds t D G) es)))

  pub test-holds : (b : Bool) (a : ℕ) (es : Vec Exp Global) (e : Box Exp Global)
      → exp_holds t D G (exps.Test b a es e) ≡ ((all_hold (operand_holds t D G) es.items && operand_holds t D G e.value) && same_type (type_at t.types a) (of_name bool_name))
  test-holds b a es e = ap checks (tree_of-Test (reading t) b a es e) ∙ ap (λ b. b && same_type (type_at t.types a) (of_name bool_name)) (tests-hold es.items e.value)

  -- Rules

  pub rules-hold : (u w : Typ) (rs : List Rule) → check_rules (table_in t) D G (rules_of (map (rule_of (reading t)) rs)) u w ≡ all_hold (rule_holds t D G u w) rs
  rules-hold u w [] = refl
  rules-hold u w (r ∷ rs) =
      ap (λ x. check_pat (table_in t) D G x.pat u && (check_exp (table_in t) D (pat_onto of_type x.pat u G) x.exp && (same_type (type_of x.exp) w && check_rules (table_in t) D G (rules_of (map (rule_of (reading t)) rs)) u w)))
      (rule_of-parts (reading t) r)
      ∙ ruled (check_pat (table_in t) D G (pat_of (reading t) r.pat) u) (check_exp (table_in t) D (pat_onto of_type (pat_of (reading t) r.pat) u G) (tree_of (reading t) r.exp)) (same_type (type_in t r.exp) w)
      (check_rules (table_in t) D G (rules_of (map (rule_of (reading t)) rs)) u w)
      ∙ ap (λ b. rule_holds t D G u w r && b) (rules-hold u w rs)

  pub case-holds : (p : Place) (a : ℕ) (e : Box Exp Global) (rs : Vec Rule Global)
      → exp_holds t D G (exps.Case p a e rs) ≡ (exp_holds t D G e.value && (over D (type_in t e.value) && all_hold (rule_holds t D G (type_in t e.value) (type_at t.types a)) rs.items))
  case-holds p a e rs =
      ap checks (tree_of-Case (reading t) p a e rs)
      ∙ ap (λ b. exp_holds t D G e.value && (over D (type_in t e.value) && b)) (rules-hold (type_in t e.value) (type_at t.types a) rs.items)

  -- Groups

  pub members-hold : (fs : List (Vec ℕ Global × ℕ × Function)) → check_funs (table_in t) D G (funs_by (type_at t.types) (map (fun_of (reading t)) fs)) ≡ all_hold (member_holds t D G) fs
  members-hold [] = refl
  members-hold (f ∷ fs) =
      ap (λ b. over D (type_at t.types f.1) && (function_holds t D G f.2 && (same_type (type_at t.types f.1) (fun_type (function_of (reading t) f.2)) && b))) (members-hold fs)
      ∙ ruled (over D (type_at t.types f.1)) (function_holds t D G f.2) (same_type (type_at t.types f.1) (fun_type (function_of (reading t) f.2))) (all_hold (member_holds t D G) fs)

module _ (t : Tables) (D : List Quantified) where
  -- Functions

  pub after-holds : (G : Knowns) (xs : List Parameter) (f : tree.Fun)
      → check_fun (table_in t) D G (after_parameters (reading t) xs f) ≡ (all_hold (parameter_holds t D G) xs && check_fun (table_in t) D (run (parameter_onto t) xs G) f)
  after-holds G [] f = refl
  after-holds G (x ∷ xs) f =
      ap (λ b. over D (type_at t.types x.ty) && b) (after-holds (parameter_onto t x xs G) xs f)
      ∙ sym (and-assoc (over D (type_at t.types x.ty)) (all_hold (parameter_holds t D G) xs) (check_fun (table_in t) D (run (parameter_onto t) xs (parameter_onto t x xs G)) f))

  -- Declarations

  put-holds : (G : Knowns) (d : DecTree) (ds : tree.Decs) → check_decs (table_in t) D G (put d ds) ≡ (tree_holds t D G d && check_decs (table_in t) D (tree_onto t d G) ds)
  put-holds G (val_tree qs bs fs) ds =
      declaring (are_new qs D) (check_binds (table_in t) qs D G bs) (check_funs (table_in t) (qs ++ D) (funs_onto own fs G) fs) (check_decs (table_in t) D (binds_onto qs bs (funs_onto (declared qs) fs G)) ds)
  put-holds G (exception_tree x i a) ds = refl
  put-holds G (counted_tree n) ds = refl

  pub decs-hold : (G : Knowns) (ds : List Dec) → check_decs (table_in t) D G (decs_of (map (dec_of (reading t)) ds)) ≡ hold (dec_holds t D) (dec_onto t) G ds
  decs-hold G [] = refl
  decs-hold G (d ∷ ds) =
      put-holds G (dec_of (reading t) d) (decs_of (map (dec_of (reading t)) ds)) ∙ ap (λ b. tree_holds t D G (dec_of (reading t) d) && b) (decs-hold (dec_onto t G d) ds)

  put-onto : (G : Knowns) (d : DecTree) (ds : tree.Decs) → decs_onto (put d ds) G ≡ decs_onto ds (tree_onto t d G)
  put-onto G (val_tree qs bs fs) ds = refl
  put-onto G (exception_tree x i a) ds = refl
  put-onto G (counted_tree n) ds = refl

  pub decs-run : (G : Knowns) (ds : List Dec) → decs_onto (decs_of (map (dec_of (reading t)) ds)) G ≡ run (dec_step t) ds G
  decs-run G [] = refl
  decs-run G (d ∷ ds) = put-onto G (dec_of (reading t) d) (decs_of (map (dec_of (reading t)) ds)) ∙ decs-run (dec_onto t G d) ds

  -- Bindings: what is asked before their parameters are in scope, and what inside

  module _ (qs : List Quantified) (G : Knowns) where
    one-bind : (g : Bool) (place : Place) (p : tree.Pat) (u : Typ) (e : tree.Exp) (bs : tree.Binds)
        → check_binds (table_in t) qs D G (tree.a_bind place g p u e bs)
        ≡ ((if g then true else over D u && check_pat (table_in t) D G p u)
        && (((if g then is_value e && (over (qs ++ D) u && check_pat (table_in t) (qs ++ D) G p u) else true) && (check_exp (table_in t) (qs ++ D) G e && same_type (type_of e) u))
        && check_binds (table_in t) qs D G bs))
    one-bind true place p u e bs =
        general-binding (is_value e) (over (qs ++ D) u) (check_pat (table_in t) (qs ++ D) G p u) (check_exp (table_in t) (qs ++ D) G e) (same_type (type_of e) u) (check_binds (table_in t) qs D G bs)
    one-bind false place p u e bs =
        plain-binding (over D u) (check_pat (table_in t) D G p u) (check_exp (table_in t) (qs ++ D) G e) (same_type (type_of e) u) (check_binds (table_in t) qs D G bs)

    pub binds-hold : (bs : List (Binding × Rule))
        → check_binds (table_in t) qs D G (binds_by (type_at t.types) (map (bind_of (reading t)) bs)) ≡ (all_hold (plain_holds t D G) bs && all_hold (inner_holds t (qs ++ D) G) bs)
    binds-hold [] = refl
    binds-hold (b ∷ bs) =
        ap (λ x. check_binds (table_in t) qs D G (tree.a_bind b.0.place b.0.general x.pat (type_at t.types b.0.ty) x.exp (binds_by (type_at t.types) (map (bind_of (reading t)) bs)))) (rule_of-parts (reading t) b.1)
        ∙ one-bind b.0.general b.0.place (pat_of (reading t) b.1.pat) (type_at t.types b.0.ty) (tree_of (reading t) b.1.exp) (binds_by (type_at t.types) (map (bind_of (reading t)) bs))
        ∙ ap (λ r. plain_holds t D G b && (inner_holds t (qs ++ D) G b && r)) (binds-hold bs)
        ∙ shuffled (plain_holds t D G b) (inner_holds t (qs ++ D) G b) (all_hold (plain_holds t D G) bs) (all_hold (inner_holds t (qs ++ D) G) bs)

  pub val-holds : (G : Knowns) (ps : ℕ) (bs : Vec (Binding × Rule) Global) (fs : Vec (Vec ℕ Global × ℕ × Function) Global)
      → tree_holds t D G (dec_of (reading t) (decs.Val ps bs fs))
      ≡ (are_new (parameters_at (parameters_of t) ps) D
      && ((all_hold (plain_holds t D G) bs.items && all_hold (inner_holds t (parameters_at (parameters_of t) ps ++ D) G) bs.items)
      && all_hold (member_holds t (parameters_at (parameters_of t) ps ++ D) (funs_onto own (funs_by (type_at t.types) (map (fun_of (reading t)) fs.items)) G)) fs.items))
  val-holds G ps bs fs =
      ap (tree_holds t D G) (dec_of-Val (reading t) ps bs fs)
      ∙ ap (λ b. are_new (parameters_at (parameters_of t) ps) D && (b && check_funs (table_in t) (parameters_at (parameters_of t) ps ++ D) (funs_onto own (funs_by (type_at t.types) (map (fun_of (reading t)) fs.items)) G)
      (funs_by (type_at t.types) (map (fun_of (reading t)) fs.items)))) (binds-hold (parameters_at (parameters_of t) ps) G bs.items)
      ∙ ap (λ b. are_new (parameters_at (parameters_of t) ps) D && ((all_hold (plain_holds t D G) bs.items && all_hold (inner_holds t (parameters_at (parameters_of t) ps ++ D) G) bs.items) && b))
      (members-hold t (parameters_at (parameters_of t) ps ++ D) (funs_onto own (funs_by (type_at t.types) (map (fun_of (reading t)) fs.items)) G) fs.items)
