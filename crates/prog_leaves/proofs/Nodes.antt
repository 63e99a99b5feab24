-- What is right of a node, by its parts.
use Rattle.std.proofs.Common.{◌≡◌, ℕ, Bool, ◌&&◌, List, [], ◌∷◌, ◌++◌, map, Option, Vec, Box, Global, refl, sym, ap, ◌∙◌}
use Rattle.std.specs.Option.{option_map}
use Rattle.mlc_names.specs.declared.label.Label.{Label}
use Rattle.mlc_base.specs.declared.place.Place.{Place}
use Rattle.ty_core.specs.Types.{Typ}
use Rattle.ty_core.specs.declared.scheme.Quantified.{Quantified}
use Rattle.ty_table.specs.TypeAt.{type_at}
use Rattle.ir_poly.specs.Prog as tree
use Rattle.ir_poly.specs.Prog.{type_of}
use Rattle.ir_poly.specs.ProgChecked.{funs_onto, binds_onto}
use Rattle.ir_poly.specs.TestsChecked.{Knowns, of_type, exception, exn_type, declared}
use Rattle.ir_tables.specs.declared.tables.Tables.{Tables}
use Rattle.ir_tables.specs.Tables.{parameters_of, parameters_at}
use Rattle.prog_known.specs.declared.environment.Environment.{Environment}
use Rattle.prog_known.specs.Environments.{table_in, parameters_in, variables_in}
use Rattle.prog_known.specs.Lists.{run, hold, all_hold}
use Rattle.prog_check.specs.Same.{same_type}
use Rattle.prog_check.specs.Checking.{check_exp, check_fun, check_rules, decs_onto, option_over}
use Rattle.prog_tree.specs.Readings.{reading}
use Rattle.prog_tree.specs.TreeOf.{Reading, DecTree, exception_tree, counted_tree, RuleTree, tree_of, function_of, dec_of, decs_of, rule_of, rules_of, atom_of, use_of, binds_by, bind_of, funs_by, fun_of, node_dec, node_exp, node_function, node_rule}
use Rattle.prog_tree.specs.declared.tree.Atom.{Atom}
use Rattle.prog_tree.specs.declared.tree.Used.{Used}
use Rattle.prog_tree.specs.declared.tree.Binding.{Binding}
use Rattle.prog_tree.specs.declared.tree.Dec.{Dec, Dec-F, fold-roll-Dec}
use Rattle.prog_tree.specs.declared.tree.Dec.TheVariants as decs
use Rattle.prog_tree.specs.declared.tree.Exp.{Exp, Exp-F, fold-roll-Exp}
use Rattle.prog_tree.specs.declared.tree.Exp.TheVariants as exps
use Rattle.prog_tree.specs.declared.tree.Function.{Function}
use Rattle.prog_tree.specs.declared.tree.Function.TheVariants as functions
use Rattle.prog_tree.specs.declared.tree.Join.{Join}
use Rattle.prog_tree.specs.declared.tree.Parameter.{Parameter}
use Rattle.prog_tree.specs.declared.tree.Rule.{Rule}
use Rattle.prog_tree.specs.declared.tree.Side.{Side}
use Rattle.prog_tree.proofs.ExpOf.{tree_of-Let, tree_of-Handle, function_of-Named, function_of-ByRules, dec_of-Val}
use Rattle.prog_pats.specs.of_prog_parts.Expressions.{type_in, dec_onto, dec_step}
use Rattle.prog_pats.specs.of_prog_parts.Expressions as parts
use Rattle.prog_pats.proofs.of_prog_parts.Checks as checks
use Rattle.prog_leaves.specs.Right.{has_type, is_bool, is_test, applies, joined, is_row, is_function_type, is_known, has_known, atom_right, use_right, exp_right, typed_right, record_right, apply_right, infix_right, rule_right, case_right, handle_right, raise_right, is_last, sequence_right, test_right, function_right, fn_right, named_right, by_rules_right, val_right, val_onto, exception_right, exception_onto, dec_right, decs_right, let_right}

-- The clean tree of nodes

module _ (R : Reading) where
  atom-tree : (c : Atom) (a : ℕ) → tree_of R (exps.Atom c a) ≡ atom_of R c (R.type a)
  atom-tree c a = ap (tree_of R) (sym (exps.rolls-Atom c a)) ∙ fold-roll-Exp DecTree tree.Exp tree.Fun RuleTree (node_dec R) (node_exp R) (node_function R) (node_rule R) (Exp-F.Atom c a)

  use-tree : (u : Used) (ts : Vec ℕ Global) (a : ℕ) → tree_of R (exps.Use u ts a) ≡ use_of R u ts.items (R.type a)
  use-tree u ts a = ap (tree_of R) (sym (exps.rolls-Use u ts a)) ∙ fold-roll-Exp DecTree tree.Exp tree.Fun RuleTree (node_dec R) (node_exp R) (node_function R) (node_rule R) (Exp-F.Use u ts a)

  raise-tree : (a : ℕ) (e : Box Exp Global) → tree_of R (exps.Raise a e) ≡ tree.raise_exp (R.type a) (tree_of R e.value)
  raise-tree a e = ap (tree_of R) (sym (exps.rolls-Raise a e)) ∙ fold-roll-Exp DecTree tree.Exp tree.Fun RuleTree (node_dec R) (node_exp R) (node_function R) (node_rule R) (Exp-F.Raise a e)

  fn-tree : (a : ℕ) (f : Function) → tree_of R (exps.Fn a f) ≡ tree.fn_exp (R.type a) (function_of R f)
  fn-tree a f = ap (tree_of R) (sym (exps.rolls-Fn a f)) ∙ fold-roll-Exp DecTree tree.Exp tree.Fun RuleTree (node_dec R) (node_exp R) (node_function R) (node_rule R) (Exp-F.Fn a f)

  counted-tree : (n a : ℕ) (e : Box Exp Global) → tree_of R (exps.Counted n a e) ≡ tree.counted_exp n (R.type a) (tree_of R e.value)
  counted-tree n a e = ap (tree_of R) (sym (exps.rolls-Counted n a e)) ∙ fold-roll-Exp DecTree tree.Exp tree.Fun RuleTree (node_dec R) (node_exp R) (node_function R) (node_rule R) (Exp-F.Counted n a e)

  exception-tree : (x i : ℕ) (a : Option ℕ) → dec_of R (decs.Exception x i a) ≡ exception_tree x i (option_map R.type a)
  exception-tree x i a = ap (dec_of R) (sym (decs.rolls-Exception x i a)) ∙ fold-roll-Dec DecTree tree.Exp tree.Fun RuleTree (node_dec R) (node_exp R) (node_function R) (node_rule R) (Dec-F.Exception x i a)

  weight-tree : (n : ℕ) → dec_of R (decs.Weight n) ≡ counted_tree n
  weight-tree n = ap (dec_of R) (sym (decs.rolls-Weight n)) ∙ fold-roll-Dec DecTree tree.Exp tree.Fun RuleTree (node_dec R) (node_exp R) (node_function R) (node_rule R) (Dec-F.Weight n)

-- What is right

module _ (t : Tables) (e : Environment) where
  abbrev is_right : tree.Exp → Bool
  is_right = check_exp (table_in t) (parameters_in e) (variables_in t e)

  pub atom-right : (c : Atom) (a : ℕ) → exp_right t e (exps.Atom c a) ≡ atom_right t e c a
  unfolding exp_right
  atom-right c a = ap is_right (atom-tree (reading t) c a)

  pub use-right : (u : Used) (ts : Vec ℕ Global) (a : ℕ) → exp_right t e (exps.Use u ts a) ≡ use_right t e u ts.items a
  unfolding exp_right
  use-right u ts a = ap is_right (use-tree (reading t) u ts a)

  pub record-right : (a : ℕ) (fs : Vec (Label × Exp) Global) → exp_right t e (exps.Record a fs) ≡ record_right t e a fs.items
  unfolding exp_right is_row
  record-right a fs = checks.record-holds t (parameters_in e) (variables_in t e) a fs

  pub apply-right : (p : Place) (f : Box Exp Global) (as_ : Vec (ℕ × Exp) Global) → exp_right t e (exps.Apply p f as_) ≡ apply_right t e f.value as_.items
  unfolding exp_right applies
  apply-right p f as_ = checks.apply-holds t (parameters_in e) (variables_in t e) p f as_

  pub infix-right : (s : Side) (x : Box Exp Global) (js : Vec (Join × Exp × Exp) Global) → exp_right t e (exps.Infix s x js) ≡ infix_right t e s x.value js.items
  unfolding exp_right joined
  infix-right s x js = checks.infix-holds t (parameters_in e) (variables_in t e) s x js

  pub case-right : (p : Place) (a : ℕ) (x : Box Exp Global) (rs : Vec Rule Global) → exp_right t e (exps.Case p a x rs) ≡ case_right t e a x.value rs.items
  unfolding exp_right has_known case_right
  case-right p a x rs = checks.case-holds t (parameters_in e) (variables_in t e) p a x rs
      ∙ sym (checks.and-assoc (parts.exp_holds t (parameters_in e) (variables_in t e) x.value) (has_known t e x.value)
      (all_hold (parts.rule_holds t (parameters_in e) (variables_in t e) (type_in t x.value) (type_at t.types a)) rs.items))

  and-true : (a : Bool) → a ≡ (a && Bool.true)
  and-true Bool.true = refl
  and-true Bool.false = refl

  last-right : (a : ℕ) (es : List Exp) (x : Exp) → parts.last_holds t (parameters_in e) (variables_in t e) a es x ≡ (exp_right t e x && is_last t es x a)
  unfolding exp_right is_last
  last-right a [] x = and-true (parts.exp_holds t (parameters_in e) (variables_in t e) x)
  last-right a (d ∷ es) x = refl

  pub sequence-right : (p : Place) (a : ℕ) (es : Vec Exp Global) (x : Box Exp Global) → exp_right t e (exps.Sequence p a es x) ≡ sequence_right t e a es.items x.value
  unfolding exp_right has_known
  sequence-right p a es x = checks.sequence-holds t (parameters_in e) (variables_in t e) p a es x ∙ ap (λ b. all_hold (parts.dropped_holds t (parameters_in e) (variables_in t e)) es.items && b) (last-right a es.items x.value)

  pub test-right : (b : Bool) (a : ℕ) (es : Vec Exp Global) (x : Box Exp Global) → exp_right t e (exps.Test b a es x) ≡ test_right t e a es.items x.value
  unfolding exp_right is_test is_bool
  test-right b a es x = checks.test-holds t (parameters_in e) (variables_in t e) b a es x

  pub handle-right : (a : ℕ) (x : Box Exp Global) (rs : Vec Rule Global) → exp_right t e (exps.Handle a x rs) ≡ handle_right t e a x.value rs.items
  unfolding exp_right has_type handle_right
  handle-right a x rs =
      ap is_right (tree_of-Handle (reading t) a x rs)
      ∙ ap (λ b. is_right (tree_of (reading t) x.value) && (same_type (type_in t x.value) (type_at t.types a) && b)) (checks.rules-hold t (parameters_in e) (variables_in t e) exn_type (type_at t.types a) rs.items)
      ∙ sym (checks.and-assoc (is_right (tree_of (reading t) x.value)) (same_type (type_in t x.value) (type_at t.types a)) (all_hold (parts.rule_holds t (parameters_in e) (variables_in t e) exn_type (type_at t.types a)) rs.items))

  pub raise-right : (a : ℕ) (x : Box Exp Global) → exp_right t e (exps.Raise a x) ≡ raise_right t e x.value
  unfolding exp_right raise_right
  raise-right a x = ap is_right (raise-tree (reading t) a x)

  pub fn-right : (a : ℕ) (f : Function) → exp_right t e (exps.Fn a f) ≡ fn_right t e a f
  unfolding exp_right function_right is_function_type
  fn-right a f = ap is_right (fn-tree (reading t) a f)

  pub counted-right : (n a : ℕ) (x : Box Exp Global) → exp_right t e (exps.Counted n a x) ≡ typed_right t e x.value a
  unfolding exp_right has_type
  counted-right n a x = ap is_right (counted-tree (reading t) n a x)

  pub let-right : (a : ℕ) (ds : Vec Dec Global) (x : Box Exp Global) → exp_right t e (exps.Let a ds x) ≡ let_right t e a ds.items x.value
  unfolding exp_right has_type decs_right let_right
  let-right a ds x =
      ap is_right (tree_of-Let (reading t) a ds x)
      ∙ ap (λ b. b && (check_exp (table_in t) (parameters_in e) (decs_onto (decs_of (map (dec_of (reading t)) ds.items)) (variables_in t e)) (tree_of (reading t) x.value) && same_type (type_in t x.value) (type_at t.types a)))
      (checks.decs-hold t (parameters_in e) (variables_in t e) ds.items)
      ∙ ap (λ G. hold (parts.dec_holds t (parameters_in e)) (dec_onto t) (variables_in t e) ds.items && (check_exp (table_in t) (parameters_in e) G (tree_of (reading t) x.value) && same_type (type_in t x.value) (type_at t.types a)))
      (checks.decs-run t (parameters_in e) (variables_in t e) ds.items)

  pub named-right : (xs : Vec Parameter Global) (x : Parameter) (b : Box Exp Global) → function_right t e (functions.Named xs x b) ≡ named_right t e xs.items x b.value
  unfolding function_right named_right is_known
  named-right xs x b = ap (check_fun (table_in t) (parameters_in e) (variables_in t e)) (function_of-Named (reading t) xs x b) ∙ checks.after-holds t (parameters_in e) (variables_in t e) xs.items (tree.last x.variable (type_at t.types x.ty) (tree_of (reading t) b.value))

  pub by-rules-right : (xs : Vec Parameter Global) (p : Place) (a u : ℕ) (rs : Vec Rule Global) → function_right t e (functions.ByRules xs p a u rs) ≡ by_rules_right t e xs.items a u rs.items
  unfolding function_right by_rules_right is_known
  by-rules-right xs p a u rs = ap (check_fun (table_in t) (parameters_in e) (variables_in t e)) (function_of-ByRules (reading t) xs p a u rs)
      ∙ checks.after-holds t (parameters_in e) (variables_in t e) xs.items (tree.by_rules p (type_at t.types a) (type_at t.types u) (rules_of (map (rule_of (reading t)) rs.items)))

  pub val-right : (ps : ℕ) (bs : Vec (Binding × Rule) Global) (fs : Vec (Vec ℕ Global × ℕ × Function) Global) → dec_right t e (decs.Val ps bs fs) ≡ val_right t e ps bs.items fs.items
  unfolding dec_right val_right
  val-right ps bs fs = checks.val-holds t (parameters_in e) (variables_in t e) ps bs fs

  pub exception-right : (x i : ℕ) (a : Option ℕ) → dec_right t e (decs.Exception x i a) ≡ exception_right t e a
  unfolding dec_right
  exception-right x i a = ap (parts.tree_holds t (parameters_in e) (variables_in t e)) (exception-tree (reading t) x i a)

  pub weight-right : (n : ℕ) → dec_right t e (decs.Weight n) ≡ Bool.true
  unfolding dec_right
  weight-right n = ap (parts.tree_holds t (parameters_in e) (variables_in t e)) (weight-tree (reading t) n)

-- What is known after a declaration

module _ (t : Tables) (G : Knowns) where
  pub val-known : (ps : ℕ) (bs : Vec (Binding × Rule) Global) (fs : Vec (Vec ℕ Global × ℕ × Function) Global) → val_onto t ps bs.items fs.items G ≡ dec_onto t G (decs.Val ps bs fs)
  val-known ps bs fs = ap (λ d. parts.tree_onto t d G) (sym (dec_of-Val (reading t) ps bs fs))

  pub exception-known : (x i : ℕ) (a : Option ℕ) → exception_onto t x a G ≡ dec_onto t G (decs.Exception x i a)
  exception-known x i a = ap (λ d. parts.tree_onto t d G) (sym (exception-tree (reading t) x i a))

  pub weight-known : (n : ℕ) → G ≡ dec_onto t G (decs.Weight n)
  weight-known n = ap (λ d. parts.tree_onto t d G) (sym (weight-tree (reading t) n))
