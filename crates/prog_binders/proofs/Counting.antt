-- How often each node binds variables, by its parts.
use Rattle.std.proofs.Common.{◌≡◌, ℕ, zero, suc, ◌+◌, ◌<◌, ◌≤◌, Bool, List, [], ◌∷◌, ◌++◌, map, take, length, get_or, Option, Vec, Box, Global, refl, sym, ap, ◌∙◌, arith}
use Rattle.std.proofs.lemmas.List.Sums.{sum_by-cons}
use Rattle.std.specs.Prelude.{sum_by}
use Rattle.mlc_names.specs.declared.label.Label.{Label}
use Rattle.mlc_names.specs.declared.label.Label.TheVariants.{Number}
use Rattle.mlc_base.specs.declared.place.Place.{Place}
use Rattle.ty_core.specs.Types.{Typ}
use Rattle.ir_poly.specs.Prog as t
use Rattle.ir_poly.specs.ProgOnce.{pat_times, pats_times, list_times, times, fields_times, chain_times, rules_times, fun_times, decs_times, binds_times, funs_times}
use Rattle.prog_tree.specs.TreeOf.{Reading, PatFieldTree, PatPartTree, pat_of, pat_field_of, pat_part_of, node_pat, node_pat_field, node_pat_part, before, fields_of, join_pats, left_pats, right_pats, chain_pats, DecTree, val_tree, exception_tree, counted_tree, RuleTree, atom_of, use_of, tree_of, dec_of, node_dec, node_exp, node_function, node_rule, put, decs_of, record_of, rules_of, join, left_joins, right_joins, apply_by, joins_by, chain_of, sequence_of, binds_by, funs_by, after_parameters, field_of, rule_of, argument_of, join_of, bind_of, fun_of}
use Rattle.prog_tree.specs.declared.tree.Head.{Head}
use Rattle.prog_tree.specs.declared.tree.Head.TheVariants as head
use Rattle.prog_tree.specs.declared.tree.Side.{Side}
use Rattle.prog_tree.specs.declared.tree.Side.TheVariants as side
use Rattle.prog_tree.specs.declared.tree.Atom.{Atom}
use Rattle.prog_tree.specs.declared.tree.Atom.TheVariants as atom
use Rattle.prog_tree.specs.declared.tree.Used.{Used}
use Rattle.prog_tree.specs.declared.tree.Used.TheVariants as used
use Rattle.prog_tree.specs.declared.tree.Join.{Join}
use Rattle.prog_tree.specs.declared.tree.Binding.{Binding}
use Rattle.prog_tree.specs.declared.tree.Parameter.{Parameter}
use Rattle.prog_tree.specs.declared.tree.Pat.{Pat, Pat-F, fold-roll-Pat}
use Rattle.prog_tree.specs.declared.tree.Pat.TheVariants as patterns
use Rattle.prog_tree.specs.declared.tree.PatField.{PatField, fold_out-PatField}
use Rattle.prog_tree.specs.declared.tree.PatPart.{PatPart, fold_out-PatPart}
use Rattle.prog_tree.specs.declared.tree.Function.{Function}
use Rattle.prog_tree.specs.declared.tree.Function.TheVariants.{Named, ByRules}
use Rattle.prog_tree.specs.declared.tree.Dec.{Dec, Dec-F, fold-roll-Dec}
use Rattle.prog_tree.specs.declared.tree.Dec.TheVariants.{Val, Exception, rolls-Exception}
use Rattle.mlc_names.specs.declared.names.Name.{Name}
use Rattle.prog_tree.specs.declared.tree.Rule.{Rule}
use Rattle.prog_tree.specs.declared.tree.Exp.{Exp, Exp-F, fold-roll-Exp}
use Rattle.prog_tree.specs.declared.tree.Exp.TheVariants.{Atom as an_atom, Use, Record, Let, Apply, Infix, Case, Sequence, Test, Handle, Raise, Fn, Counted, rolls-Atom, rolls-Use, rolls-Raise, rolls-Fn, rolls-Counted}
use Rattle.prog_tree.proofs.ExpOf.{tree_of-Record, tree_of-Let, tree_of-Apply, tree_of-Infix, tree_of-Case, tree_of-Sequence, tree_of-Test, tree_of-Handle, function_of-Named, function_of-ByRules, dec_of-Val, rule_of-parts, pat_of-Record, pat_of-Chain}
use Rattle.prog_tree.proofs.Sums.{next-sum, next-sum-is}
use Rattle.prog_binders.specs.Adding.{Adds, parameter_times, tree_times, pat_field_times, pat_part_times, exp_times, field_times, argument_times, join_times, rule_times, bind_times, function_times, member_times, dec_times}

pub list-append : (h : ℕ → ℕ) (xs ys : List ℕ) → list_times h (xs ++ ys) ≡ list_times h xs + list_times h ys
list-append h [] ys = omega arith
list-append h (x ∷ xs) ys = let r = list-append h xs ys in omega (arith, r)

module _ (R : Reading) (h : ℕ → ℕ) where
  -- Patterns

  before-times : (k : Head) (a : Typ) (p : t.Pat) → pat_times h (before k a p) ≡ pat_times h p
  before-times (head.Constructor c) a p = refl
  before-times head.Reference a p = refl
  before-times (head.Exception x) a p = refl

  join-times : (j : PatPartTree) (p q : t.Pat) → pat_times h (join_pats j p q) ≡ pat_times h p + pat_times h q
  join-times j p q =
      let e = before-times j.head j.whole (t.fields_pat Bool.false (t.a_pat (Number 1) j.left p (t.a_pat (Number 2) j.right q t.no_pats))) in omega (arith, e)

  field-times : (f : PatField) → pat_times h (pat_field_of R f).pat ≡ pat_field_times R h f
  field-times f = ap (λ x. pat_times h x.pat) (fold_out-PatField t.Pat PatFieldTree PatPartTree (node_pat R) (node_pat_field R) (node_pat_part R) f)

  part-times : (j : PatPart) → pat_times h (pat_part_of R j).pat ≡ pat_part_times R h j
  part-times j = ap (λ x. pat_times h x.pat) (fold_out-PatPart t.Pat PatFieldTree PatPartTree (node_pat R) (node_pat_field R) (node_pat_part R) j)

  pats-times : (fs : List PatField) → pats_times h (fields_of (map (pat_field_of R) fs)) ≡ sum_by (pat_field_times R h) fs
  pats-times [] = refl
  pats-times (f ∷ fs) = let c = sum_by-cons (pat_field_times R h) f fs in let e = field-times f in let r = pats-times fs in omega (arith, c, e, r)

  left-pats : (p : t.Pat) (js : List PatPart) → pat_times h (left_pats p (map (pat_part_of R) js)) ≡ pat_times h p + sum_by (pat_part_times R h) js
  left-pats p [] = omega arith
  left-pats p (j ∷ js) =
      let c = sum_by-cons (pat_part_times R h) j js in let e = part-times j in let k = join-times (pat_part_of R j) p (pat_part_of R j).pat in
      let r = left-pats (join_pats (pat_part_of R j) p (pat_part_of R j).pat) js in omega (arith, c, e, k, r)

  right-pats : (p : t.Pat) (js : List PatPart) → pat_times h (right_pats p (map (pat_part_of R) js)) ≡ pat_times h p + sum_by (pat_part_times R h) js
  right-pats p [] = omega arith
  right-pats p (j ∷ js) =
      let c = sum_by-cons (pat_part_times R h) j js in let e = part-times j in let k = join-times (pat_part_of R j) p (right_pats (pat_part_of R j).pat (map (pat_part_of R) js)) in
      let r = right-pats (pat_part_of R j).pat js in omega (arith, c, e, k, r)

  chain-pats : (s : Side) (p : t.Pat) (js : List PatPart) → pat_times h (chain_pats s p (map (pat_part_of R) js)) ≡ pat_times h p + sum_by (pat_part_times R h) js
  chain-pats side.Left p js = left-pats p js
  chain-pats side.Right p js = right-pats p js

  pub before-pat : (k : Head) (a : ℕ) (p : Box Pat Global) → pat_times h (pat_of R (patterns.Before k a p)) ≡ pat_times h (pat_of R p.value)
  before-pat k a p = ap (pat_times h) (ap (pat_of R) (sym (patterns.rolls-Before k a p)) ∙ fold-roll-Pat t.Pat PatFieldTree PatPartTree (node_pat R) (node_pat_field R) (node_pat_part R) (Pat-F.Before k a p)) ∙ before-times k (R.type a) (pat_of R p.value)

  pub variable-pat : (x : ℕ) → pat_times h (pat_of R (patterns.Variable x)) ≡ h x
  variable-pat x = ap (pat_times h) (ap (pat_of R) (sym (patterns.rolls-Variable x)) ∙ fold-roll-Pat t.Pat PatFieldTree PatPartTree (node_pat R) (node_pat_field R) (node_pat_part R) (Pat-F.Variable x))

  pub as-pat : (x : ℕ) (p : Box Pat Global) → pat_times h (pat_of R (patterns.As x p)) ≡ h x + pat_times h (pat_of R p.value)
  as-pat x p = ap (pat_times h) (ap (pat_of R) (sym (patterns.rolls-As x p)) ∙ fold-roll-Pat t.Pat PatFieldTree PatPartTree (node_pat R) (node_pat_field R) (node_pat_part R) (Pat-F.As x p))

  pub record-pat : (b : Bool) (fs : Vec PatField Global) → pat_times h (pat_of R (patterns.Record b fs)) ≡ sum_by (pat_field_times R h) fs.items
  record-pat b fs = ap (pat_times h) (pat_of-Record R b fs) ∙ pats-times fs.items

  pub chain-pat : (s : Side) (p : Box Pat Global) (js : Vec PatPart Global) → pat_times h (pat_of R (patterns.Chain s p js)) ≡ pat_times h (pat_of R p.value) + sum_by (pat_part_times R h) js.items
  chain-pat s p js = ap (pat_times h) (pat_of-Chain R s p js) ∙ chain-pats s (pat_of R p.value) js.items

  -- Lists

  put-times : (d : DecTree) (ds : t.Decs) → decs_times h (put d ds) ≡ tree_times h d + decs_times h ds
  put-times (val_tree qs bs fs) ds = omega arith
  put-times (exception_tree x i a) ds = refl
  put-times (counted_tree n) ds = omega arith

  fields-times : (fs : List (Label × Exp)) → fields_times h (record_of (map (field_of R) fs)) ≡ sum_by (field_times R h) fs
  fields-times [] = refl
  fields-times (f ∷ fs) = let c = sum_by-cons (field_times R h) f fs in let r = fields-times fs in omega (arith, c, r)

  rule-parts : (r : Rule) → pat_times h (rule_of R r).pat + times h (rule_of R r).exp ≡ rule_times R h r
  rule-parts r = ap (λ x. pat_times h x.pat + times h x.exp) (rule_of-parts R r)

  rules-times : (rs : List Rule) → rules_times h (rules_of (map (rule_of R) rs)) ≡ sum_by (rule_times R h) rs
  rules-times [] = refl
  rules-times (r ∷ rs) = let c = sum_by-cons (rule_times R h) r rs in let e = rule-parts r in let i = rules-times rs in omega (arith, c, e, i)

  arguments-times : (p : Place) (f : t.Exp) (as_ : List (ℕ × Exp)) → times h (apply_by R.type p f (map (argument_of R) as_)) ≡ times h f + sum_by (argument_times R h) as_
  arguments-times p f [] = omega arith
  arguments-times p f (a ∷ as_) =
      let c = sum_by-cons (argument_times R h) a as_ in let r = arguments-times p (t.app_exp p (R.type a.0) f (tree_of R a.1)) as_ in omega (arith, c, r)

  left-times : (e : t.Exp) (js : List (Join × Exp × Exp)) → times h (left_joins R.type e (map (join_of R) js)) ≡ times h e + sum_by (join_times R h) js
  left-times e [] = omega arith
  left-times e (j ∷ js) =
      let c = sum_by-cons (join_times R h) j js in let r = left-times (join R.type j.0 (tree_of R j.1) e (tree_of R j.2)) js in omega (arith, c, r)

  right-times : (e : t.Exp) (js : List (Join × Exp × Exp)) → times h (right_joins R.type e (map (join_of R) js)) ≡ times h e + sum_by (join_times R h) js
  right-times e [] = omega arith
  right-times e (j ∷ js) = let c = sum_by-cons (join_times R h) j js in let r = right-times (tree_of R j.2) js in omega (arith, c, r)

  joins-times : (s : Side) (e : t.Exp) (js : List (Join × Exp × Exp)) → times h (joins_by R.type s e (map (join_of R) js)) ≡ times h e + sum_by (join_times R h) js
  joins-times side.Left e js = left-times e js
  joins-times side.Right e js = right-times e js

  sequence-times : (p : Place) (a : Typ) (es : List Exp) (e : t.Exp) → times h (sequence_of p a (map (tree_of R) es) e) ≡ sum_by (exp_times R h) es + times h e
  sequence-times p a [] e = omega arith
  sequence-times p a (d ∷ es) e = let c = sum_by-cons (exp_times R h) d es in let r = sequence-times p a es e in omega (arith, c, r)

  chain-times : (es : List Exp) (e : t.Exp) → chain_times h (chain_of (map (tree_of R) es) e) ≡ sum_by (exp_times R h) es + times h e
  chain-times [] e = omega arith
  chain-times (d ∷ es) e = let c = sum_by-cons (exp_times R h) d es in let r = chain-times es e in omega (arith, c, r)

  pub decs-times : (ds : List Dec) → decs_times h (decs_of (map (dec_of R) ds)) ≡ sum_by (dec_times R h) ds
  decs-times [] = refl
  decs-times (d ∷ ds) = let c = sum_by-cons (dec_times R h) d ds in let p = put-times (dec_of R d) (decs_of (map (dec_of R) ds)) in let r = decs-times ds in omega (arith, c, p, r)

  binds-times : (bs : List (Binding × Rule)) → binds_times h (binds_by R.type (map (bind_of R) bs)) ≡ sum_by (bind_times R h) bs
  binds-times [] = refl
  binds-times (b ∷ bs) = let c = sum_by-cons (bind_times R h) b bs in let e = rule-parts b.1 in let r = binds-times bs in omega (arith, c, e, r)

  funs-times : (fs : List (Vec ℕ Global × ℕ × Function)) → funs_times h (funs_by R.type (map (fun_of R) fs)) ≡ sum_by (member_times R h) fs
  funs-times [] = refl
  funs-times (f ∷ fs) = let c = sum_by-cons (member_times R h) f fs in let r = funs-times fs in omega (arith, c, r)

  after-times : (xs : List Parameter) (f : t.Fun) → fun_times h (after_parameters R xs f) ≡ sum_by (parameter_times h) xs + fun_times h f
  after-times [] f = omega arith
  after-times (x ∷ xs) f = let c = sum_by-cons (parameter_times h) x xs in let r = after-times xs f in omega (arith, c, r)

  -- The nodes

  atom-exp : (c : Atom) (a : Typ) → times h (atom_of R c a) ≡ 0
  atom-exp (atom.Constant c) a = refl
  atom-exp (atom.Own x) a = refl
  atom-exp (atom.Exception x) a = refl
  atom-exp (atom.Reference b) a = refl

  use-exp : (u : Used) (ts : List ℕ) (a : Typ) → times h (use_of R u ts a) ≡ 0
  use-exp (used.Variable x) ts a = refl
  use-exp (used.Constructor c y) ts a = refl
  use-exp (used.Primitive p) ts a = refl

  pub atom-all : (c : Atom) (a : ℕ) → exp_times R h (an_atom c a) ≡ 0
  atom-all c a = ap (times h) (ap (tree_of R) (sym (rolls-Atom c a)) ∙ fold-roll-Exp DecTree t.Exp t.Fun RuleTree (node_dec R) (node_exp R) (node_function R) (node_rule R) (Exp-F.Atom c a)) ∙ atom-exp c (R.type a)

  pub use-all : (u : Used) (ts : Vec ℕ Global) (a : ℕ) → exp_times R h (Use u ts a) ≡ 0
  use-all u ts a = ap (times h) (ap (tree_of R) (sym (rolls-Use u ts a)) ∙ fold-roll-Exp DecTree t.Exp t.Fun RuleTree (node_dec R) (node_exp R) (node_function R) (node_rule R) (Exp-F.Use u ts a)) ∙ use-exp u ts.items (R.type a)

  pub raise-exp : (a : ℕ) (e : Box Exp Global) → exp_times R h (Raise a e) ≡ exp_times R h e.value
  raise-exp a e = ap (times h) (ap (tree_of R) (sym (rolls-Raise a e)) ∙ fold-roll-Exp DecTree t.Exp t.Fun RuleTree (node_dec R) (node_exp R) (node_function R) (node_rule R) (Exp-F.Raise a e))

  pub fn-exp : (a : ℕ) (f : Function) → exp_times R h (Fn a f) ≡ function_times R h f
  fn-exp a f = ap (times h) (ap (tree_of R) (sym (rolls-Fn a f)) ∙ fold-roll-Exp DecTree t.Exp t.Fun RuleTree (node_dec R) (node_exp R) (node_function R) (node_rule R) (Exp-F.Fn a f))

  pub counted-exp : (n a : ℕ) (e : Box Exp Global) → exp_times R h (Counted n a e) ≡ exp_times R h e.value
  counted-exp n a e = ap (times h) (ap (tree_of R) (sym (rolls-Counted n a e)) ∙ fold-roll-Exp DecTree t.Exp t.Fun RuleTree (node_dec R) (node_exp R) (node_function R) (node_rule R) (Exp-F.Counted n a e))

  pub exception-dec : (x : ℕ) (i : Name) (a : Option ℕ) → dec_times R h (Exception x i a) ≡ h x
  exception-dec x i a = ap (tree_times h) (ap (dec_of R) (sym (rolls-Exception x i a)) ∙ fold-roll-Dec DecTree t.Exp t.Fun RuleTree (node_dec R) (node_exp R) (node_function R) (node_rule R) (Dec-F.Exception x i a))

  pub record-exp : (a : ℕ) (fs : Vec (Label × Exp) Global) → exp_times R h (Record a fs) ≡ sum_by (field_times R h) fs.items
  record-exp a fs = ap (times h) (tree_of-Record R a fs) ∙ fields-times fs.items

  pub let-exp : (a : ℕ) (ds : Vec Dec Global) (e : Box Exp Global) → exp_times R h (Let a ds e) ≡ sum_by (dec_times R h) ds.items + exp_times R h e.value
  let-exp a ds e = ap (times h) (tree_of-Let R a ds e) ∙ ap (λ n. n + exp_times R h e.value) (decs-times ds.items)

  pub apply-exp : (p : Place) (f : Box Exp Global) (as_ : Vec (ℕ × Exp) Global) → exp_times R h (Apply p f as_) ≡ exp_times R h f.value + sum_by (argument_times R h) as_.items
  apply-exp p f as_ = ap (times h) (tree_of-Apply R p f as_) ∙ arguments-times p (tree_of R f.value) as_.items

  pub infix-exp : (s : Side) (e : Box Exp Global) (js : Vec (Join × Exp × Exp) Global) → exp_times R h (Infix s e js) ≡ exp_times R h e.value + sum_by (join_times R h) js.items
  infix-exp s e js = ap (times h) (tree_of-Infix R s e js) ∙ joins-times s (tree_of R e.value) js.items

  pub case-exp : (p : Place) (a : ℕ) (e : Box Exp Global) (rs : Vec Rule Global) → exp_times R h (Case p a e rs) ≡ exp_times R h e.value + sum_by (rule_times R h) rs.items
  case-exp p a e rs = ap (times h) (tree_of-Case R p a e rs) ∙ ap (λ n. exp_times R h e.value + n) (rules-times rs.items)

  pub sequence-exp : (p : Place) (a : ℕ) (es : Vec Exp Global) (e : Box Exp Global) → exp_times R h (Sequence p a es e) ≡ sum_by (exp_times R h) es.items + exp_times R h e.value
  sequence-exp p a es e = ap (times h) (tree_of-Sequence R p a es e) ∙ sequence-times p (R.type a) es.items (tree_of R e.value)

  pub test-exp : (b : Bool) (a : ℕ) (es : Vec Exp Global) (e : Box Exp Global) → exp_times R h (Test b a es e) ≡ sum_by (exp_times R h) es.items + exp_times R h e.value
  test-exp b a es e = ap (times h) (tree_of-Test R b a es e) ∙ chain-times es.items (tree_of R e.value)

  pub handle-exp : (a : ℕ) (e : Box Exp Global) (rs : Vec Rule Global) → exp_times R h (Handle a e rs) ≡ exp_times R h e.value + sum_by (rule_times R h) rs.items
  handle-exp a e rs = ap (times h) (tree_of-Handle R a e rs) ∙ ap (λ n. exp_times R h e.value + n) (rules-times rs.items)

  pub named-function : (xs : Vec Parameter Global) (x : Parameter) (e : Box Exp Global) → function_times R h (Named xs x e) ≡ sum_by (parameter_times h) xs.items + (h x.variable + exp_times R h e.value)
  named-function xs x e = ap (fun_times h) (function_of-Named R xs x e) ∙ after-times xs.items (t.last x.variable (R.type x.ty) (tree_of R e.value))

  pub rules-function : (xs : Vec Parameter Global) (p : Place) (a u : ℕ) (rs : Vec Rule Global)
      → function_times R h (ByRules xs p a u rs) ≡ sum_by (parameter_times h) xs.items + sum_by (rule_times R h) rs.items
  rules-function xs p a u rs =
      ap (fun_times h) (function_of-ByRules R xs p a u rs) ∙ (after-times xs.items (t.by_rules p (R.type a) (R.type u) (rules_of (map (rule_of R) rs.items)))
      ∙ ap (λ n. sum_by (parameter_times h) xs.items + n) (rules-times rs.items))

  pub val-dec : (ps : ℕ) (bs : Vec (Binding × Rule) Global) (fs : Vec (Vec ℕ Global × ℕ × Function) Global) → dec_times R h (Val ps bs fs) ≡ sum_by (bind_times R h) bs.items + sum_by (member_times R h) fs.items
  val-dec ps bs fs = let e = ap (tree_times h) (dec_of-Val R ps bs fs) in let b = binds-times bs.items in let f = funs-times fs.items in omega (arith, e, b, f)

take-all : {A : Type 0} (xs : List A) (i : ℕ) → length xs ≤ i → take i xs ≡ xs
take-all [] zero le = refl
take-all [] (suc i) le = refl
take-all (x ∷ xs) zero le = absurd (omega (arith, le))
take-all (x ∷ xs) (suc i) le = ap (λ l. x ∷ l) (take-all xs i (omega (arith, le)))

-- one element more
pub more : {A : Type 0} (f : Reading → (ℕ → ℕ) → A → ℕ) (xs : List A) (i : ℕ) (d : A) (old now new : List ℕ) → i < length xs → Adds old now (λ R h. sum_by (f R h) (take i xs))
    → Adds now new (λ R h. f R h (get_or xs i d)) → Adds old new (λ R h. sum_by (f R h) (take (i + 1) xs))
more f xs i d old now new lt a b R h =
    let s = next-sum (f R h) xs i d lt in let p = a R h in let q = b R h in let k : sum_by (f R h) (take (i + 1) xs) ≡ sum_by (f R h) (take (suc i) xs) = let n : i + 1 ≡ suc i = omega arith in ap (λ n. sum_by (f R h) (take n xs)) n in
    omega (arith, s, p, q, k)

pub more-is : {A : Type 0} (f : Reading → (ℕ → ℕ) → A → ℕ) (xs : List A) (i : ℕ) (x : A) (old now new : List ℕ) → i < length xs → x ≡ get_or xs i x → Adds old now (λ R h. sum_by (f R h) (take i xs))
    → Adds now new (λ R h. f R h x) → Adds old new (λ R h. sum_by (f R h) (take (i + 1) xs))
more-is f xs i x old now new lt e a b R h =
    let s = next-sum-is (f R h) xs i x lt e in let p = a R h in let q = b R h in let k : sum_by (f R h) (take (i + 1) xs) ≡ sum_by (f R h) (take (suc i) xs) = let n : i + 1 ≡ suc i = omega arith in ap (λ n. sum_by (f R h) (take n xs)) n in
    omega (arith, s, p, q, k)

-- two after another
pub then : (f g : Reading → (ℕ → ℕ) → ℕ) (old now new : List ℕ) → Adds old now f → Adds now new g → Adds old new (λ R h. f R h + g R h)
then f g old now new a b R h = let p = a R h in let q = b R h in omega (arith, p, q)

-- the same sum in other words
pub as-sum : (f g : Reading → (ℕ → ℕ) → ℕ) (old new : List ℕ) → ((R : Reading) (h : ℕ → ℕ) → g R h ≡ f R h) → Adds old new f → Adds old new g
as-sum f g old new e a R h = let p = a R h in let q = e R h in omega (arith, p, q)

-- the same list, and the same part
pub as-list : {A : Type 0} (f : Reading → (ℕ → ℕ) → A → ℕ) (xs ys : List A) (old new : List ℕ) → xs ≡ ys → Adds old new (λ R h. sum_by (f R h) xs) → Adds old new (λ R h. sum_by (f R h) ys)
as-list f xs ys old new e a R h = let p = a R h in let q = ap (sum_by (f R h)) e in omega (arith, p, q)

pub as-at : {A : Type 0} (f : Reading → (ℕ → ℕ) → A → ℕ) (x y : A) (old new : List ℕ) → x ≡ y → Adds old new (λ R h. f R h x) → Adds old new (λ R h. f R h y)
as-at f x y old new e a R h = let p = a R h in let q = ap (f R h) e in omega (arith, p, q)

-- all elements
pub all-of : {A : Type 0} (f : Reading → (ℕ → ℕ) → A → ℕ) (xs : List A) (i : ℕ) (old now : List ℕ) → length xs ≤ i → Adds old now (λ R h. sum_by (f R h) (take i xs)) → Adds old now (λ R h. sum_by (f R h) xs)
all-of f xs i old now le a R h = let p = a R h in let q : sum_by (f R h) (take i xs) ≡ sum_by (f R h) xs = ap (sum_by (f R h)) (take-all xs i le) in omega (arith, p, q)

pub pushed : (x : ℕ) (old new : List ℕ) → new ≡ old ++ x ∷ [] → Adds old new (λ R h. h x)
pushed x old new e R h = let p = ap (list_times h) e in let q = list-append h old (x ∷ []) in omega (arith, p, q)

pub extended : (xs old new : List ℕ) → new ≡ old ++ xs → Adds old new (λ R h. list_times h xs)
extended xs old new e R h = ap (list_times h) e ∙ list-append h old xs

pub nothing : (f : Reading → (ℕ → ℕ) → ℕ) (old : List ℕ) → ((R : Reading) (h : ℕ → ℕ) → f R h ≡ 0) → Adds old old f
nothing f old e R h = let p = e R h in omega (arith, p)
