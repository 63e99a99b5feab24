-- What a node stands for, by its parts.
use Rattle.std.proofs.Common.{◌≡◌, ℕ, ◌+◌, Bool, List, [], ◌∷◌, map, Vec, Box, Global, refl, ap, ◌∙◌, arith}
use Rattle.std.proofs.lemmas.List.Sums.{sum_by-cons}
use Rattle.std.specs.Prelude.{sum_by}
use Rattle.mlc_names.specs.declared.label.Label.{Label}
use Rattle.mlc_base.specs.declared.place.Place.{Place}
use Rattle.ir_tables.specs.of_ty_core.Types.{Typ}
use Rattle.ir_tables.specs.of_ir_poly.Prog as t
use Rattle.ir_tables.specs.of_ir_poly.ProgWeight.{weight, fields_weight, chain_weight, rules_weight, fun_weight, decs_weight, binds_weight, funs_weight}
use Rattle.prog_tree.specs.TreeOf.{Reading, DecTree, val_tree, exception_tree, counted_tree, tree_of, dec_of, put, decs_of, record_of, rules_of, join, left_joins, right_joins, apply_by, joins_by, chain_of, sequence_of, binds_by, funs_by, after_parameters, field_of, rule_of, argument_of, join_of, bind_of, fun_of}
use Rattle.prog_tree.specs.Weights.{tree_weight, exp_weight, field_weight, argument_weight, join_weight, rule_weight, bind_weight, function_weight, member_weight, dec_weight}
use Rattle.prog_tree.specs.declared.tree.Side.{Side}
use Rattle.prog_tree.specs.declared.tree.Side.TheVariants as side
use Rattle.prog_tree.specs.declared.tree.Join.{Join}
use Rattle.prog_tree.specs.declared.tree.Binding.{Binding}
use Rattle.prog_tree.specs.declared.tree.Parameter.{Parameter}
use Rattle.prog_tree.specs.declared.tree.Function.{Function}
use Rattle.prog_tree.specs.declared.tree.Function.TheVariants.{Named, ByRules}
use Rattle.prog_tree.specs.declared.tree.Dec.{Dec}
use Rattle.prog_tree.specs.declared.tree.Dec.TheVariants.{Val}
use Rattle.prog_tree.specs.declared.tree.Rule.{Rule}
use Rattle.prog_tree.specs.declared.tree.Exp.{Exp}
use Rattle.prog_tree.specs.declared.tree.Exp.TheVariants.{Record, Let, Apply, Infix, Case, Sequence, Test, Handle}
use Rattle.prog_tree.proofs.ExpOf.{tree_of-Record, tree_of-Let, tree_of-Apply, tree_of-Infix, tree_of-Case, tree_of-Sequence, tree_of-Test, tree_of-Handle, function_of-Named, function_of-ByRules, dec_of-Val, rule_of-parts}

put-weighs : (d : DecTree) (ds : t.Decs) → decs_weight (put d ds) ≡ tree_weight d + decs_weight ds
put-weighs (val_tree qs bs fs) ds = omega arith
put-weighs (exception_tree x i a) ds = omega arith
put-weighs (counted_tree n) ds = refl

module _ (R : Reading) where
  fields-weigh : (fs : List (Label × Exp)) → fields_weight (record_of (map (field_of R) fs)) ≡ sum_by (field_weight R) fs
  fields-weigh [] = refl
  fields-weigh (f ∷ fs) = let c = sum_by-cons (field_weight R) f fs in let h = fields-weigh fs in omega (arith, c, h)

  rules-weigh : (rs : List Rule) → rules_weight (rules_of (map (rule_of R) rs)) ≡ sum_by (rule_weight R) rs
  rules-weigh [] = refl
  rules-weigh (r ∷ rs) = let c = sum_by-cons (rule_weight R) r rs in let h = rules-weigh rs in omega (arith, c, h)

  arguments-weigh : (p : Place) (f : t.Exp) (as_ : List (ℕ × Exp)) → weight (apply_by R.type p f (map (argument_of R) as_)) ≡ weight f + sum_by (argument_weight R) as_
  arguments-weigh p f [] = omega arith
  arguments-weigh p f (a ∷ as_) =
      let c = sum_by-cons (argument_weight R) a as_ in let h = arguments-weigh p (t.app_exp p (R.type a.0) f (tree_of R a.1)) as_ in omega (arith, c, h)

  left-weigh : (e : t.Exp) (js : List (Join × Exp × Exp)) → weight (left_joins R.type e (map (join_of R) js)) ≡ weight e + sum_by (join_weight R) js
  left-weigh e [] = omega arith
  left-weigh e (j ∷ js) =
      let c = sum_by-cons (join_weight R) j js in let h = left-weigh (join R.type j.0 (tree_of R j.1) e (tree_of R j.2)) js in omega (arith, c, h)

  right-weigh : (e : t.Exp) (js : List (Join × Exp × Exp)) → weight (right_joins R.type e (map (join_of R) js)) ≡ weight e + sum_by (join_weight R) js
  right-weigh e [] = omega arith
  right-weigh e (j ∷ js) = let c = sum_by-cons (join_weight R) j js in let h = right-weigh (tree_of R j.2) js in omega (arith, c, h)

  joins-weigh : (s : Side) (e : t.Exp) (js : List (Join × Exp × Exp)) → weight (joins_by R.type s e (map (join_of R) js)) ≡ weight e + sum_by (join_weight R) js
  joins-weigh side.Left e js = left-weigh e js
  joins-weigh side.Right e js = right-weigh e js

  sequence-weighs : (p : Place) (a : Typ) (es : List Exp) (e : t.Exp) → weight (sequence_of p a (map (tree_of R) es) e) ≡ sum_by (exp_weight R) es + weight e
  sequence-weighs p a [] e = omega arith
  sequence-weighs p a (d ∷ es) e = let c = sum_by-cons (exp_weight R) d es in let h = sequence-weighs p a es e in omega (arith, c, h)

  chain-weighs : (es : List Exp) (e : t.Exp) → chain_weight (chain_of (map (tree_of R) es) e) ≡ sum_by (exp_weight R) es + weight e
  chain-weighs [] e = omega arith
  chain-weighs (d ∷ es) e = let c = sum_by-cons (exp_weight R) d es in let h = chain-weighs es e in omega (arith, c, h)

  pub decs-weigh : (ds : List Dec) → decs_weight (decs_of (map (dec_of R) ds)) ≡ sum_by (dec_weight R) ds
  decs-weigh [] = refl
  decs-weigh (d ∷ ds) =
      let c = sum_by-cons (dec_weight R) d ds in let p = put-weighs (dec_of R d) (decs_of (map (dec_of R) ds)) in let h = decs-weigh ds in omega (arith, c, p, h)

  binds-weigh : (bs : List (Binding × Rule)) → binds_weight (binds_by R.type (map (bind_of R) bs)) ≡ sum_by (bind_weight R) bs
  binds-weigh [] = refl
  binds-weigh (b ∷ bs) = let c = sum_by-cons (bind_weight R) b bs in let h = binds-weigh bs in omega (arith, c, h)

  funs-weigh : (fs : List (Vec ℕ Global × ℕ × Function)) → funs_weight (funs_by R.type (map (fun_of R) fs)) ≡ sum_by (member_weight R) fs
  funs-weigh [] = refl
  funs-weigh (f ∷ fs) = let c = sum_by-cons (member_weight R) f fs in let h = funs-weigh fs in omega (arith, c, h)

  after-weighs : (xs : List Parameter) (f : t.Fun) → fun_weight (after_parameters R xs f) ≡ fun_weight f
  after-weighs [] f = refl
  after-weighs (x ∷ xs) f = after-weighs xs f

  -- The nodes

  pub record-weighs : (a : ℕ) (fs : Vec (Label × Exp) Global) → exp_weight R (Record a fs) ≡ sum_by (field_weight R) fs.items
  record-weighs a fs = ap weight (tree_of-Record R a fs) ∙ fields-weigh fs.items

  pub let-weighs : (a : ℕ) (ds : Vec Dec Global) (e : Box Exp Global) → exp_weight R (Let a ds e) ≡ sum_by (dec_weight R) ds.items + exp_weight R e.value
  let-weighs a ds e = ap weight (tree_of-Let R a ds e) ∙ ap (λ n. n + exp_weight R e.value) (decs-weigh ds.items)

  pub apply-weighs : (p : Place) (f : Box Exp Global) (as_ : Vec (ℕ × Exp) Global) → exp_weight R (Apply p f as_) ≡ exp_weight R f.value + sum_by (argument_weight R) as_.items
  apply-weighs p f as_ = ap weight (tree_of-Apply R p f as_) ∙ arguments-weigh p (tree_of R f.value) as_.items

  pub infix-weighs : (s : Side) (e : Box Exp Global) (js : Vec (Join × Exp × Exp) Global) → exp_weight R (Infix s e js) ≡ exp_weight R e.value + sum_by (join_weight R) js.items
  infix-weighs s e js = ap weight (tree_of-Infix R s e js) ∙ joins-weigh s (tree_of R e.value) js.items

  pub case-weighs : (p : Place) (a : ℕ) (e : Box Exp Global) (rs : Vec Rule Global) → exp_weight R (Case p a e rs) ≡ exp_weight R e.value + sum_by (rule_weight R) rs.items
  case-weighs p a e rs = ap weight (tree_of-Case R p a e rs) ∙ ap (λ n. exp_weight R e.value + n) (rules-weigh rs.items)

  pub sequences-weigh : (p : Place) (a : ℕ) (es : Vec Exp Global) (e : Box Exp Global) → exp_weight R (Sequence p a es e) ≡ sum_by (exp_weight R) es.items + exp_weight R e.value
  sequences-weigh p a es e = ap weight (tree_of-Sequence R p a es e) ∙ sequence-weighs p (R.type a) es.items (tree_of R e.value)

  pub test-weighs : (b : Bool) (a : ℕ) (es : Vec Exp Global) (e : Box Exp Global) → exp_weight R (Test b a es e) ≡ sum_by (exp_weight R) es.items + exp_weight R e.value
  test-weighs b a es e = ap weight (tree_of-Test R b a es e) ∙ chain-weighs es.items (tree_of R e.value)

  pub handle-weighs : (a : ℕ) (e : Box Exp Global) (rs : Vec Rule Global) → exp_weight R (Handle a e rs) ≡ exp_weight R e.value + sum_by (rule_weight R) rs.items
  handle-weighs a e rs = ap weight (tree_of-Handle R a e rs) ∙ ap (λ n. exp_weight R e.value + n) (rules-weigh rs.items)

  pub named-weighs : (xs : Vec Parameter Global) (x : Parameter) (e : Box Exp Global) → function_weight R (Named xs x e) ≡ exp_weight R e.value
  named-weighs xs x e = ap fun_weight (function_of-Named R xs x e) ∙ after-weighs xs.items (t.last x.variable (R.type x.ty) (tree_of R e.value))

  pub rules-function-weighs : (xs : Vec Parameter Global) (p : Place) (a u : ℕ) (rs : Vec Rule Global) → function_weight R (ByRules xs p a u rs) ≡ sum_by (rule_weight R) rs.items
  rules-function-weighs xs p a u rs =
      ap fun_weight (function_of-ByRules R xs p a u rs) ∙ (after-weighs xs.items (t.by_rules p (R.type a) (R.type u) (rules_of (map (rule_of R) rs.items))) ∙ rules-weigh rs.items)

  pub val-weighs : (ps : ℕ) (bs : Vec (Binding × Rule) Global) (fs : Vec (Vec ℕ Global × ℕ × Function) Global) → dec_weight R (Val ps bs fs) ≡ sum_by (bind_weight R) bs.items + sum_by (member_weight R) fs.items
  val-weighs ps bs fs = let e = ap tree_weight (dec_of-Val R ps bs fs) in let b = binds-weigh bs.items in let f = funs-weigh fs.items in omega (arith, e, b, f)

  pub rule-weight : (r : Rule) → rule_weight R r ≡ exp_weight R r.exp
  rule-weight r = ap (λ x. weight x.exp) (rule_of-parts R r)
