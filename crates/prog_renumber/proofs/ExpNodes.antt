-- What expressions and declarations with other numbers stand for, by their parts.
use Rattle.std.proofs.Common.{◌≡◌, ℕ, Bool, List, [], ◌∷◌, map, Option, Some, None, Vec, Box, Global, refl, sym, ap, ap₂, ◌∙◌}
use Rattle.std.specs.Prelude.{option_map}
use Rattle.mlc_names.specs.declared.label.Label.{Label}
use Rattle.mlc_base.specs.declared.place.Place.{Place}
use Rattle.ty_core.specs.Types.{Typ}
use Rattle.ir_poly.specs.Prog as t
use Rattle.prog_tree.specs.TreeOf.{Reading, DecTree, exception_tree, val_tree, RuleTree, tree_of, function_of, dec_of, rule_of, pat_of, field_of, argument_of, join_of, bind_of, fun_of, decs_of, record_of, rules_of, chain_of, sequence_of, apply_by, left_joins, right_joins, joins_by, join, binds_by, funs_by, after_parameters, atom_of, use_of, types_of, node_dec, node_exp, node_function, node_rule}
use Rattle.prog_tree.specs.declared.tree.Atom.{Atom}
use Rattle.prog_tree.specs.declared.tree.Atom.TheVariants as atom
use Rattle.prog_tree.specs.declared.tree.Binding.{Binding}
use Rattle.prog_tree.specs.declared.tree.Dec.{Dec, Dec-F, fold-roll-Dec}
use Rattle.prog_tree.specs.declared.tree.Dec.TheVariants as dec
use Rattle.prog_tree.specs.declared.tree.Exp.{Exp, Exp-F, fold-roll-Exp}
use Rattle.prog_tree.specs.declared.tree.Exp.TheVariants as exp
use Rattle.prog_tree.specs.declared.tree.Function.{Function}
use Rattle.prog_tree.specs.declared.tree.Function.TheVariants as function
use Rattle.prog_tree.specs.declared.tree.Join.{Join}
use Rattle.prog_tree.specs.declared.tree.Parameter.{Parameter}
use Rattle.prog_tree.specs.declared.tree.Rule.{Rule}
use Rattle.prog_tree.specs.declared.tree.Side.{Side}
use Rattle.prog_tree.specs.declared.tree.Side.TheVariants as side
use Rattle.prog_tree.specs.declared.tree.Used.{Used}
use Rattle.prog_tree.specs.declared.tree.Used.TheVariants as used
use Rattle.prog_tree.proofs.ExpOf.{tree_of-Record, tree_of-Let, tree_of-Apply, tree_of-Infix, tree_of-Case, tree_of-Sequence, tree_of-Test, tree_of-Handle, function_of-Named, function_of-ByRules, dec_of-Val, rule_of-parts}
use Rattle.prog_renumber.specs.Renumbered.{number_at, renumbered, parameter_at, join_at, atom_at, argument_from, join_from, bind_from, member_of}
use Rattle.prog_renumber.specs.declared.numbers.Numbers.{Numbers}

module _ (R : Reading) where
  tree_of-Atom : (c : Atom) (a : ℕ) → tree_of R (exp.Atom c a) ≡ atom_of R c (R.type a)
  tree_of-Atom c a = ap (tree_of R) (sym (exp.rolls-Atom c a)) ∙ fold-roll-Exp DecTree t.Exp t.Fun RuleTree (node_dec R) (node_exp R) (node_function R) (node_rule R) (Exp-F.Atom c a)

  tree_of-Use : (u : Used) (ts : Vec ℕ Global) (a : ℕ) → tree_of R (exp.Use u ts a) ≡ use_of R u ts.items (R.type a)
  tree_of-Use u ts a = ap (tree_of R) (sym (exp.rolls-Use u ts a)) ∙ fold-roll-Exp DecTree t.Exp t.Fun RuleTree (node_dec R) (node_exp R) (node_function R) (node_rule R) (Exp-F.Use u ts a)

  tree_of-Raise : (a : ℕ) (e : Box Exp Global) → tree_of R (exp.Raise a e) ≡ t.raise_exp (R.type a) (tree_of R e.value)
  tree_of-Raise a e = ap (tree_of R) (sym (exp.rolls-Raise a e)) ∙ fold-roll-Exp DecTree t.Exp t.Fun RuleTree (node_dec R) (node_exp R) (node_function R) (node_rule R) (Exp-F.Raise a e)

  tree_of-Fn : (a : ℕ) (f : Function) → tree_of R (exp.Fn a f) ≡ t.fn_exp (R.type a) (function_of R f)
  tree_of-Fn a f = ap (tree_of R) (sym (exp.rolls-Fn a f)) ∙ fold-roll-Exp DecTree t.Exp t.Fun RuleTree (node_dec R) (node_exp R) (node_function R) (node_rule R) (Exp-F.Fn a f)

  tree_of-Counted : (n a : ℕ) (e : Box Exp Global) → tree_of R (exp.Counted n a e) ≡ t.counted_exp n (R.type a) (tree_of R e.value)
  tree_of-Counted n a e = ap (tree_of R) (sym (exp.rolls-Counted n a e)) ∙ fold-roll-Exp DecTree t.Exp t.Fun RuleTree (node_dec R) (node_exp R) (node_function R) (node_rule R) (Exp-F.Counted n a e)

  dec_of-Exception : (x i : ℕ) (a : Option ℕ) → dec_of R (dec.Exception x i a) ≡ exception_tree x i (option_map R.type a)
  dec_of-Exception x i a = ap (dec_of R) (sym (dec.rolls-Exception x i a)) ∙ fold-roll-Dec DecTree t.Exp t.Fun RuleTree (node_dec R) (node_exp R) (node_function R) (node_rule R) (Dec-F.Exception x i a)

-- functions that are declared together, by what stands for each
abbrev members_by : List (List ℕ × Typ × t.Fun) → t.Funs
members_by [] = t.no_funs
members_by (f ∷ fs) = t.a_fun f.0 f.1 f.2 (members_by fs)

members-are : (R : Reading) (fs : List (Vec ℕ Global × ℕ × Function)) → funs_by R.type (map (fun_of R) fs) ≡ members_by (map (member_of R) fs)
members-are R [] = refl
members-are R (f ∷ fs) = ap (t.a_fun f.0.items (R.type f.1) (function_of R f.2)) (members-are R fs)

module _ (n : Numbers) (Q : Reading) where
  abbrev R : Reading
  R = renumbered n Q

  -- lists

  types-same : (ts : List ℕ) → types_of Q (map (number_at n) ts) ≡ types_of R ts
  types-same [] = refl
  types-same (k ∷ ts) = ap (λ l. Q.type (number_at n k) ∷ l) (types-same ts)

  after-same : (xs : List Parameter) (f : t.Fun) → after_parameters Q (map (parameter_at n) xs) f ≡ after_parameters R xs f
  after-same [] f = refl
  after-same (x ∷ xs) f = ap (t.more x.variable (Q.type (number_at n x.ty))) (after-same xs f)

  apply-same : (p : Place) (f : t.Exp) (as_ : List (ℕ × Exp)) → apply_by Q.type p f (map (argument_from n Q) as_) ≡ apply_by R.type p f (map (argument_of R) as_)
  apply-same p f [] = refl
  apply-same p f (a ∷ as_) = apply-same p (t.app_exp p (Q.type (number_at n a.0)) f (tree_of R a.1)) as_

  left-same : (e : t.Exp) (js : List (Join × Exp × Exp)) → left_joins Q.type e (map (join_from n Q) js) ≡ left_joins R.type e (map (join_of R) js)
  left-same e [] = refl
  left-same e (j ∷ js) = left-same (join Q.type (join_at n j.0) (tree_of R j.1) e (tree_of R j.2)) js

  right-same : (e : t.Exp) (js : List (Join × Exp × Exp)) → right_joins Q.type e (map (join_from n Q) js) ≡ right_joins R.type e (map (join_of R) js)
  right-same e [] = refl
  right-same e (j ∷ js) = ap (join Q.type (join_at n j.0) (tree_of R j.1) e) (right-same (tree_of R j.2) js)

  joins-same : (s : Side) (e : t.Exp) (js : List (Join × Exp × Exp)) → joins_by Q.type s e (map (join_from n Q) js) ≡ joins_by R.type s e (map (join_of R) js)
  joins-same side.Left e js = left-same e js
  joins-same side.Right e js = right-same e js

  binds-same : (bs : List (Binding × Rule)) → binds_by Q.type (map (bind_from n Q) bs) ≡ binds_by R.type (map (bind_of R) bs)
  binds-same [] = refl
  binds-same (b ∷ bs) = ap (t.a_bind b.0.place b.0.general (rule_of R b.1).pat (Q.type (number_at n b.0.ty)) (rule_of R b.1).exp) (binds-same bs)

  funs-same : (gs fs : List (Vec ℕ Global × ℕ × Function)) → map (member_of Q) gs ≡ map (member_of R) fs → funs_by Q.type (map (fun_of Q) gs) ≡ funs_by R.type (map (fun_of R) fs)
  funs-same gs fs e = members-are Q gs ∙ ap members_by e ∙ sym (members-are R fs)

  -- nodes

  pub atom-renumbered : (c c' : Atom) (a a' : ℕ) → c' ≡ atom_at n c → a' ≡ number_at n a → tree_of Q (exp.Atom c' a') ≡ tree_of R (exp.Atom c a)
  atom-renumbered c c' a a' e f = tree_of-Atom Q c' a' ∙ ap₂ (λ x y. atom_of Q x (Q.type y)) e f ∙ same c ∙ sym (tree_of-Atom R c a)
    where
      same : (c : Atom) → atom_of Q (atom_at n c) (Q.type (number_at n a)) ≡ atom_of R c (R.type a)
      same (atom.Constant c) = refl
      same (atom.Own x) = refl
      same (atom.Exception x) = refl
      same (atom.Reference b) = refl

  pub use-renumbered : (u u' : Used) (ts ts' : Vec ℕ Global) (a a' : ℕ) → u' ≡ u → ts'.items ≡ map (number_at n) ts.items → a' ≡ number_at n a
      → tree_of Q (exp.Use u' ts' a') ≡ tree_of R (exp.Use u ts a)
  use-renumbered u u' ts ts' a a' e f g =
      tree_of-Use Q u' ts' a' ∙ ap₂ (λ x y. use_of Q x ts'.items (Q.type y)) e g ∙ ap (λ l. use_of Q u l (Q.type (number_at n a))) f ∙ same u ∙ sym (tree_of-Use R u ts a)
    where
      same : (u : Used) → use_of Q u (map (number_at n) ts.items) (Q.type (number_at n a)) ≡ use_of R u ts.items (R.type a)
      same (used.Variable x) = ap (λ l. t.variable_exp x l (R.type a)) (types-same ts.items)
      same (used.Constructor c y) = ap (λ l. t.con_exp c y l (R.type a)) (types-same ts.items)
      same (used.Primitive p) = ap (λ l. t.prim_exp p l (R.type a)) (types-same ts.items)

  pub record-renumbered : (a a' : ℕ) (fs fs' : Vec (Label × Exp) Global) → a' ≡ number_at n a → map (field_of Q) fs'.items ≡ map (field_of R) fs.items
      → tree_of Q (exp.Record a' fs') ≡ tree_of R (exp.Record a fs)
  record-renumbered a a' fs fs' e g = tree_of-Record Q a' fs' ∙ ap₂ (λ x y. t.fields_exp (Q.type x) (record_of y)) e g ∙ sym (tree_of-Record R a fs)

  pub let-renumbered : (a a' : ℕ) (ds ds' : Vec Dec Global) (e e' : Box Exp Global) → a' ≡ number_at n a → map (dec_of Q) ds'.items ≡ map (dec_of R) ds.items
      → tree_of Q e'.value ≡ tree_of R e.value → tree_of Q (exp.Let a' ds' e') ≡ tree_of R (exp.Let a ds e)
  let-renumbered a a' ds ds' e e' p q r =
      tree_of-Let Q a' ds' e' ∙ ap₂ (λ x y. t.let_exp (Q.type x) (decs_of y) (tree_of Q e'.value)) p q ∙ ap (t.let_exp (R.type a) (decs_of (map (dec_of R) ds.items))) r
      ∙ sym (tree_of-Let R a ds e)

  pub apply-renumbered : (p p' : Place) (f f' : Box Exp Global) (as_ as' : Vec (ℕ × Exp) Global) → p' ≡ p → tree_of Q f'.value ≡ tree_of R f.value
      → map (argument_of Q) as'.items ≡ map (argument_from n Q) as_.items → tree_of Q (exp.Apply p' f' as') ≡ tree_of R (exp.Apply p f as_)
  apply-renumbered p p' f f' as_ as' e g h =
      tree_of-Apply Q p' f' as' ∙ ap₂ (λ x y. apply_by Q.type x y (map (argument_of Q) as'.items)) e g ∙ ap (apply_by Q.type p (tree_of R f.value)) h
      ∙ apply-same p (tree_of R f.value) as_.items ∙ sym (tree_of-Apply R p f as_)

  pub infix-renumbered : (s s' : Side) (e e' : Box Exp Global) (js js' : Vec (Join × Exp × Exp) Global) → s' ≡ s → tree_of Q e'.value ≡ tree_of R e.value
      → map (join_of Q) js'.items ≡ map (join_from n Q) js.items → tree_of Q (exp.Infix s' e' js') ≡ tree_of R (exp.Infix s e js)
  infix-renumbered s s' e e' js js' p q r =
      tree_of-Infix Q s' e' js' ∙ ap₂ (λ x y. joins_by Q.type x y (map (join_of Q) js'.items)) p q ∙ ap (joins_by Q.type s (tree_of R e.value)) r
      ∙ joins-same s (tree_of R e.value) js.items ∙ sym (tree_of-Infix R s e js)

  pub case-renumbered : (p p' : Place) (a a' : ℕ) (e e' : Box Exp Global) (rs rs' : Vec Rule Global) → p' ≡ p → a' ≡ number_at n a → tree_of Q e'.value ≡ tree_of R e.value
      → map (rule_of Q) rs'.items ≡ map (rule_of R) rs.items → tree_of Q (exp.Case p' a' e' rs') ≡ tree_of R (exp.Case p a e rs)
  case-renumbered p p' a a' e e' rs rs' h i j k =
      tree_of-Case Q p' a' e' rs' ∙ ap₂ (λ x y. t.case_exp x (Q.type y) (tree_of Q e'.value) (rules_of (map (rule_of Q) rs'.items))) h i
      ∙ ap₂ (λ x y. t.case_exp p (R.type a) x (rules_of y)) j k ∙ sym (tree_of-Case R p a e rs)

  pub sequence-renumbered : (p p' : Place) (a a' : ℕ) (es es' : Vec Exp Global) (e e' : Box Exp Global) → p' ≡ p → a' ≡ number_at n a → map (tree_of Q) es'.items ≡ map (tree_of R) es.items
      → tree_of Q e'.value ≡ tree_of R e.value → tree_of Q (exp.Sequence p' a' es' e') ≡ tree_of R (exp.Sequence p a es e)
  sequence-renumbered p p' a a' es es' e e' h i j k =
      tree_of-Sequence Q p' a' es' e' ∙ ap₂ (λ x y. sequence_of x (Q.type y) (map (tree_of Q) es'.items) (tree_of Q e'.value)) h i
      ∙ ap₂ (sequence_of p (R.type a)) j k ∙ sym (tree_of-Sequence R p a es e)

  pub test-renumbered : (b b' : Bool) (a a' : ℕ) (es es' : Vec Exp Global) (e e' : Box Exp Global) → b' ≡ b → a' ≡ number_at n a → map (tree_of Q) es'.items ≡ map (tree_of R) es.items
      → tree_of Q e'.value ≡ tree_of R e.value → tree_of Q (exp.Test b' a' es' e') ≡ tree_of R (exp.Test b a es e)
  test-renumbered b b' a a' es es' e e' h i j k =
      tree_of-Test Q b' a' es' e' ∙ ap₂ (λ x y. t.chain_exp x (Q.type y) (chain_of (map (tree_of Q) es'.items) (tree_of Q e'.value))) h i
      ∙ ap₂ (λ x y. t.chain_exp b (R.type a) (chain_of x y)) j k ∙ sym (tree_of-Test R b a es e)

  pub handle-renumbered : (a a' : ℕ) (e e' : Box Exp Global) (rs rs' : Vec Rule Global) → a' ≡ number_at n a → tree_of Q e'.value ≡ tree_of R e.value
      → map (rule_of Q) rs'.items ≡ map (rule_of R) rs.items → tree_of Q (exp.Handle a' e' rs') ≡ tree_of R (exp.Handle a e rs)
  handle-renumbered a a' e e' rs rs' i j k =
      tree_of-Handle Q a' e' rs' ∙ ap (λ x. t.handle_exp (Q.type x) (tree_of Q e'.value) (rules_of (map (rule_of Q) rs'.items))) i
      ∙ ap₂ (λ x y. t.handle_exp (R.type a) x (rules_of y)) j k ∙ sym (tree_of-Handle R a e rs)

  pub raise-renumbered : (a a' : ℕ) (e e' : Box Exp Global) → a' ≡ number_at n a → tree_of Q e'.value ≡ tree_of R e.value → tree_of Q (exp.Raise a' e') ≡ tree_of R (exp.Raise a e)
  raise-renumbered a a' e e' i j = tree_of-Raise Q a' e' ∙ ap₂ (λ x y. t.raise_exp (Q.type x) y) i j ∙ sym (tree_of-Raise R a e)

  pub fn-renumbered : (a a' : ℕ) (f f' : Function) → a' ≡ number_at n a → function_of Q f' ≡ function_of R f → tree_of Q (exp.Fn a' f') ≡ tree_of R (exp.Fn a f)
  fn-renumbered a a' f f' i j = tree_of-Fn Q a' f' ∙ ap₂ (λ x y. t.fn_exp (Q.type x) y) i j ∙ sym (tree_of-Fn R a f)

  pub counted-renumbered : (k k' a a' : ℕ) (e e' : Box Exp Global) → k' ≡ k → a' ≡ number_at n a → tree_of Q e'.value ≡ tree_of R e.value
      → tree_of Q (exp.Counted k' a' e') ≡ tree_of R (exp.Counted k a e)
  counted-renumbered k k' a a' e e' h i j =
      tree_of-Counted Q k' a' e' ∙ ap₂ (λ x y. t.counted_exp x (Q.type y) (tree_of Q e'.value)) h i ∙ ap (t.counted_exp k (R.type a)) j ∙ sym (tree_of-Counted R k a e)

  pub named-renumbered : (xs xs' : Vec Parameter Global) (x x' : Parameter) (e e' : Box Exp Global) → xs'.items ≡ map (parameter_at n) xs.items → x' ≡ parameter_at n x
      → tree_of Q e'.value ≡ tree_of R e.value → function_of Q (function.Named xs' x' e') ≡ function_of R (function.Named xs x e)
  named-renumbered xs xs' x x' e e' h i j =
      function_of-Named Q xs' x' e' ∙ ap₂ (λ l y. after_parameters Q l (t.last y.variable (Q.type y.ty) (tree_of Q e'.value))) h i
      ∙ after-same xs.items (t.last x.variable (R.type x.ty) (tree_of Q e'.value)) ∙ ap (λ y. after_parameters R xs.items (t.last x.variable (R.type x.ty) y)) j
      ∙ sym (function_of-Named R xs x e)

  pub by-rules-renumbered : (xs xs' : Vec Parameter Global) (p p' : Place) (a a' u u' : ℕ) (rs rs' : Vec Rule Global) → xs'.items ≡ map (parameter_at n) xs.items → p' ≡ p → a' ≡ number_at n a
      → u' ≡ number_at n u → map (rule_of Q) rs'.items ≡ map (rule_of R) rs.items → function_of Q (function.ByRules xs' p' a' u' rs') ≡ function_of R (function.ByRules xs p a u rs)
  by-rules-renumbered xs xs' p p' a a' u u' rs rs' g h i j k =
      function_of-ByRules Q xs' p' a' u' rs'
      ∙ ap₂ (λ l y. after_parameters Q l (t.by_rules y (Q.type a') (Q.type u') (rules_of (map (rule_of Q) rs'.items)))) g h
      ∙ ap₂ (λ x y. after_parameters Q (map (parameter_at n) xs.items) (t.by_rules p (Q.type x) (Q.type y) (rules_of (map (rule_of Q) rs'.items)))) i j
      ∙ after-same xs.items (t.by_rules p (R.type a) (R.type u) (rules_of (map (rule_of Q) rs'.items)))
      ∙ ap (λ y. after_parameters R xs.items (t.by_rules p (R.type a) (R.type u) (rules_of y))) k ∙ sym (function_of-ByRules R xs p a u rs)

  pub val-renumbered : (ps ps' : ℕ) (bs bs' : Vec (Binding × Rule) Global) (fs fs' : Vec (Vec ℕ Global × ℕ × Function) Global) → ps' ≡ ps
      → map (bind_of Q) bs'.items ≡ map (bind_from n Q) bs.items → map (member_of Q) fs'.items ≡ map (member_of R) fs.items → dec_of Q (dec.Val ps' bs' fs') ≡ dec_of R (dec.Val ps bs fs)
  val-renumbered ps ps' bs bs' fs fs' h i j =
      dec_of-Val Q ps' bs' fs' ∙ ap₂ (λ x y. val_tree (Q.parameters x) (binds_by Q.type y) (funs_by Q.type (map (fun_of Q) fs'.items))) h i
      ∙ ap₂ (λ x y. val_tree (Q.parameters ps) x y) (binds-same bs.items) (funs-same fs'.items fs.items j) ∙ sym (dec_of-Val R ps bs fs)

  pub exception-renumbered : (x x' i i' : ℕ) (a a' : Option ℕ) → x' ≡ x → i' ≡ i → a' ≡ option_map (number_at n) a → dec_of Q (dec.Exception x' i' a') ≡ dec_of R (dec.Exception x i a)
  exception-renumbered x x' i i' a a' e f g =
      dec_of-Exception Q x' i' a' ∙ ap₂ (λ y z. exception_tree y z (option_map Q.type a')) e f ∙ ap (λ y. exception_tree x i (option_map Q.type y)) g ∙ ap (exception_tree x i) (same a)
      ∙ sym (dec_of-Exception R x i a)
    where
      same : (a : Option ℕ) → option_map Q.type (option_map (number_at n) a) ≡ option_map R.type a
      same None = refl
      same (Some k) = refl

  pub rule-renumbered : (r r' : Rule) → pat_of Q r'.pat ≡ pat_of R r.pat → tree_of Q r'.exp ≡ tree_of R r.exp → rule_of Q r' ≡ rule_of R r
  rule-renumbered r r' e f = rule_of-parts Q r' ∙ ap₂ (λ x y. record { pat = x; exp = y }) e f ∙ sym (rule_of-parts R r)
