-- What each kind of expression and of function is, whose lists and parts are given.
use Rattle.std.proofs.Common.{◌≡◌, ℕ, Bool, List, map, Vec, Box, Global, sym, ap, ap₂, ◌∙◌}
use Rattle.mlc_names.specs.declared.label.Label.{Label}
use Rattle.mlc_base.specs.declared.place.Place.{Place}
use Rattle.ir_poly.specs.Prog as t
use Rattle.prog_tree.specs.TreeOf.{Reading, DecTree, RuleTree, tree_of, function_of, node_dec, node_exp, node_function, node_rule, use_of, decs_of, dec_of, rules_of, rule_of, chain_of, sequence_of, apply_by, argument_of, joins_by, join_of, after_parameters}
use Rattle.prog_tree.specs.declared.tree.Atom.{Atom}
use Rattle.prog_tree.specs.declared.tree.Used.{Used}
use Rattle.prog_tree.specs.declared.tree.Dec.{Dec}
use Rattle.prog_tree.specs.declared.tree.Exp.{Exp, Exp-F, fold-roll-Exp}
use Rattle.prog_tree.specs.declared.tree.Exp.TheVariants as exps
use Rattle.prog_tree.specs.declared.tree.Function.{Function}
use Rattle.prog_tree.specs.declared.tree.Function.TheVariants as functions
use Rattle.prog_tree.specs.declared.tree.Join.{Join}
use Rattle.prog_tree.specs.declared.tree.Parameter.{Parameter}
use Rattle.prog_tree.specs.declared.tree.Rule.{Rule}
use Rattle.prog_tree.specs.declared.tree.Side.{Side}
use Rattle.prog_tree.specs.declared.tree.Side.TheVariants as side
use Rattle.prog_tree.proofs.ExpOf.{tree_of-Record, tree_of-Let, tree_of-Apply, tree_of-Infix, tree_of-Case, tree_of-Sequence, tree_of-Test, tree_of-Handle, function_of-Named, function_of-ByRules}
use Rattle.general_bindings.specs.of_exp_steps.Made.{atomic, used, recorded, raised, counted}
use Rattle.general_bindings.proofs.of_exp_steps.Heads.{counted-node}
use Rattle.match_pass.specs.Reading.{expression, fields_read, let_read, applied_to, left_chain, right_chain, case_read, sequence_read, chain_exp_read, handle_read, function_read, named_read, by_rules_read}

module _ (R : Reading) (P : Exp) where
  pub atom-node : (a : Atom) (u : ℕ) → P ≡ exps.Atom a u → expression P R ≡ atomic a u R
  atom-node a u is = ap (tree_of R) (is ∙ sym (exps.rolls-Atom a u)) ∙ fold-roll-Exp DecTree t.Exp t.Fun RuleTree (node_dec R) (node_exp R) (node_function R) (node_rule R) (Exp-F.Atom a u)

  pub use-node : (x : Used) (ts : Vec ℕ Global) (u : ℕ) (l : List ℕ) → P ≡ exps.Use x ts u → l ≡ ts.items → expression P R ≡ used x l u R
  use-node x ts u l is e =
      ap (tree_of R) (is ∙ sym (exps.rolls-Use x ts u)) ∙ fold-roll-Exp DecTree t.Exp t.Fun RuleTree (node_dec R) (node_exp R) (node_function R) (node_rule R) (Exp-F.Use x ts u)
      ∙ ap (λ k. use_of R x k (R.type u)) (sym e)

  pub record-node : (u : ℕ) (fs : Vec (Label × Exp) Global) (l : List (Label × Exp)) → P ≡ exps.Record u fs → l ≡ fs.items → expression P R ≡ recorded u (fields_read l) R
  record-node u fs l is e = ap (tree_of R) is ∙ tree_of-Record R u fs ∙ ap (λ k. t.fields_exp (R.type u) (fields_read k R)) (sym e)

  pub let-node : (u : ℕ) (ds : Vec Dec Global) (e : Box Exp Global) (l : List Dec) (d : Exp) → P ≡ exps.Let u ds e → l ≡ ds.items → d ≡ e.value → expression P R ≡ let_read u l (expression d) R
  let-node u ds e l d is same inner = ap (tree_of R) is ∙ tree_of-Let R u ds e ∙ ap₂ (λ k x. t.let_exp (R.type u) (decs_of (map (dec_of R) k)) (tree_of R x)) (sym same) (sym inner)

  pub apply-node : (p : Place) (f : Box Exp Global) (as_ : Vec (ℕ × Exp) Global) (d : Exp) (l : List (ℕ × Exp)) → P ≡ exps.Apply p f as_ → d ≡ f.value → l ≡ as_.items → expression P R ≡ applied_to p (expression d) l R
  apply-node p f as_ d l is inner same = ap (tree_of R) is ∙ tree_of-Apply R p f as_ ∙ ap₂ (λ x k. apply_by R.type p (tree_of R x) (map (argument_of R) k)) (sym inner) (sym same)

  pub left-node : (s : Side) (e : Box Exp Global) (js : Vec (Join × Exp × Exp) Global) (d : Exp) (l : List (Join × Exp × Exp)) → P ≡ exps.Infix s e js → s ≡ side.Left → d ≡ e.value → l ≡ js.items
      → expression P R ≡ left_chain (expression d) l R
  left-node s e js d l is side_is inner same =
      ap (tree_of R) is ∙ tree_of-Infix R s e js ∙ ap (λ x. joins_by R.type x (tree_of R e.value) (map (join_of R) js.items)) side_is
      ∙ ap₂ (λ x k. left_chain (expression x) k R) (sym inner) (sym same)

  pub right-node : (s : Side) (e : Box Exp Global) (js : Vec (Join × Exp × Exp) Global) (d : Exp) (l : List (Join × Exp × Exp)) → P ≡ exps.Infix s e js → s ≡ side.Right → d ≡ e.value → l ≡ js.items
      → expression P R ≡ right_chain (expression d) l R
  right-node s e js d l is side_is inner same =
      ap (tree_of R) is ∙ tree_of-Infix R s e js ∙ ap (λ x. joins_by R.type x (tree_of R e.value) (map (join_of R) js.items)) side_is
      ∙ ap₂ (λ x k. right_chain (expression x) k R) (sym inner) (sym same)

  pub case-node : (p : Place) (u : ℕ) (e : Box Exp Global) (rs : Vec Rule Global) (d : Exp) (l : List Rule) → P ≡ exps.Case p u e rs → d ≡ e.value → l ≡ rs.items → expression P R ≡ case_read p u (expression d) l R
  case-node p u e rs d l is inner same = ap (tree_of R) is ∙ tree_of-Case R p u e rs ∙ ap₂ (λ x k. t.case_exp p (R.type u) (tree_of R x) (rules_of (map (rule_of R) k))) (sym inner) (sym same)

  pub sequence-node : (p : Place) (u : ℕ) (es : Vec Exp Global) (e : Box Exp Global) (l : List Exp) (d : Exp) → P ≡ exps.Sequence p u es e → l ≡ es.items → d ≡ e.value → expression P R ≡ sequence_read p u l (expression d) R
  sequence-node p u es e l d is same inner =
      ap (tree_of R) is ∙ tree_of-Sequence R p u es e ∙ ap₂ (λ k x. sequence_of p (R.type u) (map (tree_of R) k) (tree_of R x)) (sym same) (sym inner)

  pub test-node : (b : Bool) (u : ℕ) (es : Vec Exp Global) (e : Box Exp Global) (l : List Exp) (d : Exp) → P ≡ exps.Test b u es e → l ≡ es.items → d ≡ e.value → expression P R ≡ chain_exp_read b u l d R
  test-node b u es e l d is same inner =
      ap (tree_of R) is ∙ tree_of-Test R b u es e ∙ ap₂ (λ k x. t.chain_exp b (R.type u) (chain_of (map (tree_of R) k) (tree_of R x))) (sym same) (sym inner)

  pub handle-node : (u : ℕ) (e : Box Exp Global) (rs : Vec Rule Global) (d : Exp) (l : List Rule) → P ≡ exps.Handle u e rs → d ≡ e.value → l ≡ rs.items → expression P R ≡ handle_read u (expression d) l R
  handle-node u e rs d l is inner same = ap (tree_of R) is ∙ tree_of-Handle R u e rs ∙ ap₂ (λ x k. t.handle_exp (R.type u) (tree_of R x) (rules_of (map (rule_of R) k))) (sym inner) (sym same)

  pub raise-node : (u : ℕ) (e : Box Exp Global) (d : Exp) → P ≡ exps.Raise u e → d ≡ e.value → expression P R ≡ raised u (expression d) R
  raise-node u e d is inner =
      ap (tree_of R) (is ∙ sym (exps.rolls-Raise u e)) ∙ fold-roll-Exp DecTree t.Exp t.Fun RuleTree (node_dec R) (node_exp R) (node_function R) (node_rule R) (Exp-F.Raise u e)
      ∙ ap (λ x. t.raise_exp (R.type u) (tree_of R x)) (sym inner)

  pub fn-node : (u : ℕ) (f : Function) → P ≡ exps.Fn u f → expression P R ≡ t.fn_exp (R.type u) (function_read f R)
  fn-node u f is = ap (tree_of R) (is ∙ sym (exps.rolls-Fn u f)) ∙ fold-roll-Exp DecTree t.Exp t.Fun RuleTree (node_dec R) (node_exp R) (node_function R) (node_rule R) (Exp-F.Fn u f)

  pub weight-node : (k u : ℕ) (e : Box Exp Global) (d : Exp) → P ≡ exps.Counted k u e → d ≡ e.value → expression P R ≡ counted k u (expression d) R
  weight-node k u e d is inner = ap (tree_of R) is ∙ counted-node R k u e ∙ ap (λ x. t.counted_exp k (R.type u) (tree_of R x)) (sym inner)

module _ (R : Reading) (F : Function) where
  pub named-node : (xs : Vec Parameter Global) (x : Parameter) (e : Box Exp Global) (l : List Parameter) (d : Exp) → F ≡ functions.Named xs x e → l ≡ xs.items → d ≡ e.value → function_read F R ≡ named_read l x (expression d) R
  named-node xs x e l d is same inner =
      ap (function_of R) is ∙ function_of-Named R xs x e ∙ ap₂ (λ k y. after_parameters R k (t.last x.variable (R.type x.ty) (tree_of R y))) (sym same) (sym inner)

  pub by_rules-node : (xs : Vec Parameter Global) (p : Place) (a u : ℕ) (rs : Vec Rule Global) (l : List Parameter) (k : List Rule) → F ≡ functions.ByRules xs p a u rs → l ≡ xs.items → k ≡ rs.items
      → function_read F R ≡ by_rules_read l p a u k R
  by_rules-node xs p a u rs l k is same rules_same =
      ap (function_of R) is ∙ function_of-ByRules R xs p a u rs ∙ ap₂ (λ i j. after_parameters R i (t.by_rules p (R.type a) (R.type u) (rules_of (map (rule_of R) j)))) (sym same) (sym rules_same)
