-- The clean tree of each kind of node.
use Rattle.std.proofs.Common.{◌≡◌, ℕ, Bool, map, Vec, Box, Global, sym, ap, ◌∙◌}
use Rattle.mlc_names.specs.declared.label.Label.{Label}
use Rattle.mlc_base.specs.declared.place.Place.{Place}
use Rattle.ir_tables.specs.of_ir_poly.Prog as t
use Rattle.prog_tree.specs.TreeOf.{Reading, PatFieldTree, PatPartTree, pat_field_of, pat_part_of, fields_of, before, chain_pats, node_pat, node_pat_field, node_pat_part, DecTree, val_tree, RuleTree, tree_of, function_of, dec_of, decs_of, record_of, rules_of, apply_by, joins_by, chain_of, sequence_of, binds_by, funs_by, after_parameters, pat_of, field_of, rule_of, argument_of, join_of, bind_of, fun_of, node_dec, node_exp, node_function, node_rule}
use Rattle.prog_tree.specs.declared.tree.Side.{Side}
use Rattle.prog_tree.specs.declared.tree.Join.{Join}
use Rattle.prog_tree.specs.declared.tree.Head.{Head}
use Rattle.prog_tree.specs.declared.tree.Pat.{Pat, Pat-F, fold-roll-Pat}
use Rattle.prog_tree.specs.declared.tree.Pat.TheVariants as patterns
use Rattle.prog_tree.specs.declared.tree.PatField.{PatField, fold_out-PatField}
use Rattle.prog_tree.specs.declared.tree.PatPart.{PatPart, fold_out-PatPart}
use Rattle.prog_tree.specs.declared.tree.Binding.{Binding}
use Rattle.prog_tree.specs.declared.tree.Parameter.{Parameter}
use Rattle.prog_tree.specs.declared.tree.Function.{Function, Function-F, fold-roll-Function}
use Rattle.prog_tree.specs.declared.tree.Function.TheVariants.{Named, ByRules, rolls-Named, rolls-ByRules}
use Rattle.prog_tree.specs.declared.tree.Dec.{Dec, Dec-F, fold-roll-Dec}
use Rattle.prog_tree.specs.declared.tree.Dec.TheVariants.{Val, rolls-Val}
use Rattle.prog_tree.specs.declared.tree.Rule.{Rule, fold_out-Rule}
use Rattle.prog_tree.specs.declared.tree.Exp.{Exp, Exp-F, fold-roll-Exp}
use Rattle.prog_tree.specs.declared.tree.Exp.TheVariants.{Record, Let, Apply, Infix, Case, Sequence, Test, Handle, Fn, rolls-Record, rolls-Let, rolls-Apply, rolls-Infix, rolls-Case, rolls-Sequence, rolls-Test, rolls-Handle, rolls-Fn}

module _ (R : Reading) where
  pub tree_of-Record : (a : ℕ) (fs : Vec (Label × Exp) Global) → tree_of R (Record a fs) ≡ t.fields_exp (R.type a) (record_of (map (field_of R) fs.items))
  tree_of-Record a fs = ap (tree_of R) (sym (rolls-Record a fs)) ∙ fold-roll-Exp DecTree t.Exp t.Fun RuleTree (node_dec R) (node_exp R) (node_function R) (node_rule R) (Exp-F.Record a fs)

  pub tree_of-Let : (a : ℕ) (ds : Vec Dec Global) (e : Box Exp Global) → tree_of R (Let a ds e) ≡ t.let_exp (R.type a) (decs_of (map (dec_of R) ds.items)) (tree_of R e.value)
  tree_of-Let a ds e = ap (tree_of R) (sym (rolls-Let a ds e)) ∙ fold-roll-Exp DecTree t.Exp t.Fun RuleTree (node_dec R) (node_exp R) (node_function R) (node_rule R) (Exp-F.Let a ds e)

  pub tree_of-Apply : (p : Place) (f : Box Exp Global) (as_ : Vec (ℕ × Exp) Global) → tree_of R (Apply p f as_) ≡ apply_by R.type p (tree_of R f.value) (map (argument_of R) as_.items)
  tree_of-Apply p f as_ = ap (tree_of R) (sym (rolls-Apply p f as_)) ∙ fold-roll-Exp DecTree t.Exp t.Fun RuleTree (node_dec R) (node_exp R) (node_function R) (node_rule R) (Exp-F.Apply p f as_)

  pub tree_of-Infix : (s : Side) (e : Box Exp Global) (js : Vec (Join × Exp × Exp) Global) → tree_of R (Infix s e js) ≡ joins_by R.type s (tree_of R e.value) (map (join_of R) js.items)
  tree_of-Infix s e js = ap (tree_of R) (sym (rolls-Infix s e js)) ∙ fold-roll-Exp DecTree t.Exp t.Fun RuleTree (node_dec R) (node_exp R) (node_function R) (node_rule R) (Exp-F.Infix s e js)

  pub tree_of-Case : (p : Place) (a : ℕ) (e : Box Exp Global) (rs : Vec Rule Global) → tree_of R (Case p a e rs) ≡ t.case_exp p (R.type a) (tree_of R e.value) (rules_of (map (rule_of R) rs.items))
  tree_of-Case p a e rs = ap (tree_of R) (sym (rolls-Case p a e rs)) ∙ fold-roll-Exp DecTree t.Exp t.Fun RuleTree (node_dec R) (node_exp R) (node_function R) (node_rule R) (Exp-F.Case p a e rs)

  pub tree_of-Sequence : (p : Place) (a : ℕ) (es : Vec Exp Global) (e : Box Exp Global) → tree_of R (Sequence p a es e) ≡ sequence_of p (R.type a) (map (tree_of R) es.items) (tree_of R e.value)
  tree_of-Sequence p a es e = ap (tree_of R) (sym (rolls-Sequence p a es e)) ∙ fold-roll-Exp DecTree t.Exp t.Fun RuleTree (node_dec R) (node_exp R) (node_function R) (node_rule R) (Exp-F.Sequence p a es e)

  pub tree_of-Test : (b : Bool) (a : ℕ) (es : Vec Exp Global) (e : Box Exp Global) → tree_of R (Test b a es e) ≡ t.chain_exp b (R.type a) (chain_of (map (tree_of R) es.items) (tree_of R e.value))
  tree_of-Test b a es e = ap (tree_of R) (sym (rolls-Test b a es e)) ∙ fold-roll-Exp DecTree t.Exp t.Fun RuleTree (node_dec R) (node_exp R) (node_function R) (node_rule R) (Exp-F.Test b a es e)

  pub tree_of-Handle : (a : ℕ) (e : Box Exp Global) (rs : Vec Rule Global) → tree_of R (Handle a e rs) ≡ t.handle_exp (R.type a) (tree_of R e.value) (rules_of (map (rule_of R) rs.items))
  tree_of-Handle a e rs = ap (tree_of R) (sym (rolls-Handle a e rs)) ∙ fold-roll-Exp DecTree t.Exp t.Fun RuleTree (node_dec R) (node_exp R) (node_function R) (node_rule R) (Exp-F.Handle a e rs)

  pub function_of-Named : (xs : Vec Parameter Global) (x : Parameter) (e : Box Exp Global) → function_of R (Named xs x e) ≡ after_parameters R xs.items (t.last x.variable (R.type x.ty) (tree_of R e.value))
  function_of-Named xs x e = ap (function_of R) (sym (rolls-Named xs x e)) ∙ fold-roll-Function DecTree t.Exp t.Fun RuleTree (node_dec R) (node_exp R) (node_function R) (node_rule R) (Function-F.Named xs x e)

  pub function_of-ByRules : (xs : Vec Parameter Global) (p : Place) (a u : ℕ) (rs : Vec Rule Global) → function_of R (ByRules xs p a u rs) ≡ after_parameters R xs.items (t.by_rules p (R.type a) (R.type u) (rules_of (map (rule_of R) rs.items)))
  function_of-ByRules xs p a u rs = ap (function_of R) (sym (rolls-ByRules xs p a u rs)) ∙ fold-roll-Function DecTree t.Exp t.Fun RuleTree (node_dec R) (node_exp R) (node_function R) (node_rule R) (Function-F.ByRules xs p a u rs)

  pub dec_of-Val : (ps : ℕ) (bs : Vec (Binding × Rule) Global) (fs : Vec (Vec ℕ Global × ℕ × Function) Global) → dec_of R (Val ps bs fs) ≡ val_tree (R.parameters ps) (binds_by R.type (map (bind_of R) bs.items)) (funs_by R.type (map (fun_of R) fs.items))
  dec_of-Val ps bs fs = ap (dec_of R) (sym (rolls-Val ps bs fs)) ∙ fold-roll-Dec DecTree t.Exp t.Fun RuleTree (node_dec R) (node_exp R) (node_function R) (node_rule R) (Dec-F.Val ps bs fs)

  pub rule_of-parts : (r : Rule) → rule_of R r ≡ record { pat = pat_of R r.pat; exp = tree_of R r.exp }
  rule_of-parts = fold_out-Rule DecTree t.Exp t.Fun RuleTree (node_dec R) (node_exp R) (node_function R) (node_rule R)

  pub pat_of-Record : (b : Bool) (fs : Vec PatField Global) → pat_of R (patterns.Record b fs) ≡ t.fields_pat b (fields_of (map (pat_field_of R) fs.items))
  pat_of-Record b fs = ap (pat_of R) (sym (patterns.rolls-Record b fs)) ∙ fold-roll-Pat t.Pat PatFieldTree PatPartTree (node_pat R) (node_pat_field R) (node_pat_part R) (Pat-F.Record b fs)

  pub pat_of-Chain : (s : Side) (p : Box Pat Global) (js : Vec PatPart Global) → pat_of R (patterns.Chain s p js) ≡ chain_pats s (pat_of R p.value) (map (pat_part_of R) js.items)
  pat_of-Chain s p js = ap (pat_of R) (sym (patterns.rolls-Chain s p js)) ∙ fold-roll-Pat t.Pat PatFieldTree PatPartTree (node_pat R) (node_pat_field R) (node_pat_part R) (Pat-F.Chain s p js)
