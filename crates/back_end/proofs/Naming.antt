-- What the nodes of a tree make of exceptions, by their parts.
use Rattle.std.proofs.Common.{arith, ◌≡◌, ℕ, zero, suc, ◌<◌, ◌≤◌, Bool, true, false, ◌&&◌, add-one, get_or, length, take, List, [], ◌∷◌, map, Vec, Box, Global, All, refl, sym, ap, ◌∙◌, subst}
use Rattle.std.proofs.lemmas.List.{take_all}
use Rattle.std.proofs.lemmas.List.Elements.{All-head, All-more, All-nil, All-tail}
use Rattle.mlc_names.specs.declared.label.Label.{Label}
use Rattle.mlc_base.specs.declared.place.Place.{Place}
use Rattle.ty_core.specs.Types.{Typ}
use Rattle.ir_poly.specs.Prog as t
use Rattle.match_compile.specs.Exceptions.{made, fields_made, chain_made, rules_made, fun_made, decs_made, binds_made, funs_made}
use Rattle.back_end.specs.Keeping.{tree_made, Keeps, exp_keeps, field_keeps, argument_keeps, join_keeps, rule_keeps, bind_keeps, function_keeps, member_keeps, dec_keeps}
use Rattle.prog_tree.specs.TreeOf.{Reading, DecTree, val_tree, exception_tree, counted_tree, RuleTree, node_dec, node_exp, node_function, node_rule, atom_of, use_of, tree_of, dec_of, put, decs_of, record_of, rules_of, join, left_joins, right_joins, apply_by, joins_by, chain_of, sequence_of, binds_by, funs_by, after_parameters, body_of, field_of, rule_of, argument_of, join_of, bind_of, fun_of}
use Rattle.prog_tree.specs.declared.tree.Atom.{Atom}
use Rattle.prog_tree.specs.declared.tree.Atom.TheVariants as atom
use Rattle.prog_tree.specs.declared.tree.Used.{Used}
use Rattle.prog_tree.specs.declared.tree.Used.TheVariants as used
use Rattle.prog_tree.specs.declared.tree.Side.{Side}
use Rattle.prog_tree.specs.declared.tree.Side.TheVariants as side
use Rattle.prog_tree.specs.declared.tree.Join.{Join}
use Rattle.prog_tree.specs.declared.tree.Binding.{Binding}
use Rattle.prog_tree.specs.declared.tree.Parameter.{Parameter}
use Rattle.prog_tree.specs.declared.tree.Function.{Function}
use Rattle.prog_tree.specs.declared.tree.Function.TheVariants.{Named, ByRules}
use Rattle.prog_tree.specs.declared.tree.Dec.{Dec}
use Rattle.prog_tree.specs.declared.tree.Dec.TheVariants.{Val}
use Rattle.prog_tree.specs.declared.tree.Rule.{Rule}
use Rattle.prog_tree.specs.declared.tree.Exp.{Exp, Exp-F, fold-roll-Exp}
use Rattle.prog_tree.specs.declared.tree.Exp.TheVariants.{Atom as AtomNode, Use, Record, Let, Apply, Infix, Case, Sequence, Test, Handle, Raise, Fn, Counted, rolls-Atom, rolls-Use, rolls-Raise, rolls-Fn, rolls-Counted}
use Rattle.prog_tree.proofs.ExpOf.{tree_of-Record, tree_of-Let, tree_of-Apply, tree_of-Infix, tree_of-Case, tree_of-Sequence, tree_of-Test, tree_of-Handle, function_of-Named, function_of-ByRules, dec_of-Val, rule_of-parts}

module _ (n : ℕ) where
  abbrev Below : ℕ → Type 0
  Below i = i < n

  put-keeps : (d : DecTree) → Keeps n (tree_made d) → (ds : t.Decs) → Keeps n (decs_made ds) → Keeps n (decs_made (put d ds))
  put-keeps (val_tree qs bs fs) h ds k us w = h (decs_made ds us) (k us w)
  put-keeps (exception_tree x i a) h ds k us w = h (decs_made ds us) (k us w)
  put-keeps (counted_tree c) h ds k us w = k us w

  module _ (R : Reading) where
    fields-keep : (fs : List (Label × Exp)) → All (field_keeps n) fs → Keeps n (fields_made (record_of (map (field_of R) fs)))
    fields-keep [] h us w = w
    fields-keep (f ∷ fs) h us w = All-head (field_keeps n) f fs h R _ (fields-keep fs (All-tail (field_keeps n) f fs h) us w)

    rules-keep : (rs : List Rule) → All (rule_keeps n) rs → Keeps n (rules_made (rules_of (map (rule_of R) rs)))
    rules-keep [] h us w = w
    rules-keep (r ∷ rs) h us w =
        subst (λ (e : t.Exp). All Below (made e (rules_made (rules_of (map (rule_of R) rs)) us))) (sym (ap (λ x. x.exp) (rule_of-parts R r)))
        (All-head (rule_keeps n) r rs h R _ (rules-keep rs (All-tail (rule_keeps n) r rs h) us w))

    arguments-keep : (p : Place) (f : t.Exp) → Keeps n (made f) → (as_ : List (ℕ × Exp)) → All (argument_keeps n) as_ → Keeps n (made (apply_by R.type p f (map (argument_of R) as_)))
    arguments-keep p f k [] h us w = k us w
    arguments-keep p f k (a ∷ as_) h us w =
        arguments-keep p (t.app_exp p (R.type a.0) f (tree_of R a.1)) (λ vs x. k _ (All-head (argument_keeps n) a as_ h R vs x)) as_ (All-tail (argument_keeps n) a as_ h) us w

    left-keep : (e : t.Exp) → Keeps n (made e) → (js : List (Join × Exp × Exp)) → All (join_keeps n) js → Keeps n (made (left_joins R.type e (map (join_of R) js)))
    left-keep e k [] h us w = k us w
    left-keep e k (j ∷ js) h us w =
        let here = All-head (join_keeps n) j js h in
        left-keep (join R.type j.0 (tree_of R j.1) e (tree_of R j.2)) (λ vs x. here.0 R _ (k _ (here.1 R vs x))) js (All-tail (join_keeps n) j js h) us w

    right-keep : (e : t.Exp) → Keeps n (made e) → (js : List (Join × Exp × Exp)) → All (join_keeps n) js → Keeps n (made (right_joins R.type e (map (join_of R) js)))
    right-keep e k [] h us w = k us w
    right-keep e k (j ∷ js) h us w =
        let here = All-head (join_keeps n) j js h in
        here.0 R _ (k _ (right-keep (tree_of R j.2) (here.1 R) js (All-tail (join_keeps n) j js h) us w))

    joins-keep : (s : Side) (e : t.Exp) → Keeps n (made e) → (js : List (Join × Exp × Exp)) → All (join_keeps n) js → Keeps n (made (joins_by R.type s e (map (join_of R) js)))
    joins-keep side.Left = left-keep
    joins-keep side.Right = right-keep

    sequence-keeps : (p : Place) (a : Typ) (es : List Exp) → All (exp_keeps n) es → (e : t.Exp) → Keeps n (made e) → Keeps n (made (sequence_of p a (map (tree_of R) es) e))
    sequence-keeps p a [] h e k us w = k us w
    sequence-keeps p a (d ∷ es) h e k us w = All-head (exp_keeps n) d es h R _ (sequence-keeps p a es (All-tail (exp_keeps n) d es h) e k us w)

    chain-keeps : (es : List Exp) → All (exp_keeps n) es → (e : t.Exp) → Keeps n (made e) → Keeps n (chain_made (chain_of (map (tree_of R) es) e))
    chain-keeps [] h e k us w = k us w
    chain-keeps (d ∷ es) h e k us w = All-head (exp_keeps n) d es h R _ (chain-keeps es (All-tail (exp_keeps n) d es h) e k us w)

    decs-keep : (ds : List Dec) → All (dec_keeps n) ds → Keeps n (decs_made (decs_of (map (dec_of R) ds)))
    decs-keep [] h us w = w
    decs-keep (d ∷ ds) h us w =
        put-keeps (dec_of R d) (All-head (dec_keeps n) d ds h R) (decs_of (map (dec_of R) ds)) (decs-keep ds (All-tail (dec_keeps n) d ds h)) us w

    binds-keep : (bs : List (Binding × Rule)) → All (bind_keeps n) bs → Keeps n (binds_made (binds_by R.type (map (bind_of R) bs)))
    binds-keep [] h us w = w
    binds-keep (b ∷ bs) h us w =
        subst (λ (e : t.Exp). All Below (made e (binds_made (binds_by R.type (map (bind_of R) bs)) us))) (sym (ap (λ x. x.exp) (rule_of-parts R b.1)))
        (All-head (bind_keeps n) b bs h R _ (binds-keep bs (All-tail (bind_keeps n) b bs h) us w))

    funs-keep : (fs : List (Vec ℕ Global × ℕ × Function)) → All (member_keeps n) fs → Keeps n (funs_made (funs_by R.type (map (fun_of R) fs)))
    funs-keep [] h us w = w
    funs-keep (f ∷ fs) h us w = All-head (member_keeps n) f fs h R _ (funs-keep fs (All-tail (member_keeps n) f fs h) us w)

    after-keeps : (xs : List Parameter) (f : t.Fun) → Keeps n (fun_made f) → Keeps n (fun_made (after_parameters R xs f))
    after-keeps [] f k us w = k us w
    after-keeps (x ∷ xs) f k us w = after-keeps xs f k us w

  -- The nodes

  atom-made : (a : Atom) (R : Reading) (u : Typ) → Keeps n (made (atom_of R a u))
  atom-made (atom.Constant c) R u us w = w
  atom-made (atom.Own x) R u us w = w
  atom-made (atom.Exception x) R u us w = w
  atom-made (atom.Reference b) R u us w = w

  use-made : (x : Used) (ts : List ℕ) (R : Reading) (u : Typ) → Keeps n (made (use_of R x ts u))
  use-made (used.Variable x) ts R u us w = w
  use-made (used.Constructor c y) ts R u us w = w
  use-made (used.Primitive p) ts R u us w = w

  by : {e f : t.Exp} → e ≡ f → Keeps n (made f) → Keeps n (made e)
  by is k = subst (λ e. Keeps n (made e)) (sym is) k

  fun-by : {f g : t.Fun} → f ≡ g → Keeps n (fun_made g) → Keeps n (fun_made f)
  fun-by is k = subst (λ f. Keeps n (fun_made f)) (sym is) k

  pub record-keeps : (a : ℕ) (fs : Vec (Label × Exp) Global) → All (field_keeps n) fs.items → exp_keeps n (Record a fs)
  record-keeps a fs h R = by (tree_of-Record R a fs) (fields-keep R fs.items h)

  pub let-keeps : (a : ℕ) (ds : Vec Dec Global) (e : Box Exp Global) → All (dec_keeps n) ds.items → exp_keeps n e.value → exp_keeps n (Let a ds e)
  let-keeps a ds e h k R = by (tree_of-Let R a ds e) (λ us w. decs-keep R ds.items h _ (k R us w))

  pub apply-keeps : (p : Place) (f : Box Exp Global) (as_ : Vec (ℕ × Exp) Global) → exp_keeps n f.value → All (argument_keeps n) as_.items → exp_keeps n (Apply p f as_)
  apply-keeps p f as_ k h R = by (tree_of-Apply R p f as_) (arguments-keep R p (tree_of R f.value) (k R) as_.items h)

  pub infix-keeps : (s : Side) (e : Box Exp Global) (js : Vec (Join × Exp × Exp) Global) → exp_keeps n e.value → All (join_keeps n) js.items → exp_keeps n (Infix s e js)
  infix-keeps s e js k h R = by (tree_of-Infix R s e js) (joins-keep R s (tree_of R e.value) (k R) js.items h)

  pub case-keeps : (p : Place) (a : ℕ) (e : Box Exp Global) (rs : Vec Rule Global) → exp_keeps n e.value → All (rule_keeps n) rs.items → exp_keeps n (Case p a e rs)
  case-keeps p a e rs k h R = by (tree_of-Case R p a e rs) (λ us w. k R _ (rules-keep R rs.items h us w))

  pub sequences-keep : (p : Place) (a : ℕ) (es : Vec Exp Global) (e : Box Exp Global) → All (exp_keeps n) es.items → exp_keeps n e.value → exp_keeps n (Sequence p a es e)
  sequences-keep p a es e h k R = by (tree_of-Sequence R p a es e) (sequence-keeps R p (R.type a) es.items h (tree_of R e.value) (k R))

  pub test-keeps : (b : Bool) (a : ℕ) (es : Vec Exp Global) (e : Box Exp Global) → All (exp_keeps n) es.items → exp_keeps n e.value → exp_keeps n (Test b a es e)
  test-keeps b a es e h k R = by (tree_of-Test R b a es e) (chain-keeps R es.items h (tree_of R e.value) (k R))

  pub handle-keeps : (a : ℕ) (e : Box Exp Global) (rs : Vec Rule Global) → exp_keeps n e.value → All (rule_keeps n) rs.items → exp_keeps n (Handle a e rs)
  handle-keeps a e rs k h R = by (tree_of-Handle R a e rs) (λ us w. k R _ (rules-keep R rs.items h us w))

  pub named-keeps : (xs : Vec Parameter Global) (x : Parameter) (e : Box Exp Global) → exp_keeps n e.value → function_keeps n (Named xs x e)
  named-keeps xs x e k R = fun-by (function_of-Named R xs x e) (after-keeps R xs.items (t.last x.variable (R.type x.ty) (tree_of R e.value)) (k R))

  pub by-rules-keeps : (xs : Vec Parameter Global) (p : Place) (a u : ℕ) (rs : Vec Rule Global) → All (rule_keeps n) rs.items → function_keeps n (ByRules xs p a u rs)
  by-rules-keeps xs p a u rs h R =
      fun-by (function_of-ByRules R xs p a u rs) (after-keeps R xs.items (t.by_rules p (R.type a) (R.type u) (rules_of (map (rule_of R) rs.items))) (rules-keep R rs.items h))

  pub val-keeps : (ps : ℕ) (bs : Vec (Binding × Rule) Global) (fs : Vec (Vec ℕ Global × ℕ × Function) Global) → All (bind_keeps n) bs.items → All (member_keeps n) fs.items → dec_keeps n (Val ps bs fs)
  val-keeps ps bs fs h k R =
      subst (λ d. Keeps n (tree_made d)) (sym (dec_of-Val R ps bs fs)) (λ us w. binds-keep R bs.items h _ (funs-keep R fs.items k us w))

  pub body-keeps : (ds : List Dec) → All (dec_keeps n) ds → (R : Reading) → All (λ i. i < n) (decs_made (body_of R ds) [])
  body-keeps ds h R = decs-keep R ds h [] (All-nil (λ i. i < n))

  pub atom-keeps : (a : Atom) (u : ℕ) → exp_keeps n (AtomNode a u)
  atom-keeps a u R =
      by (ap (tree_of R) (sym (rolls-Atom a u)) ∙ fold-roll-Exp DecTree t.Exp t.Fun RuleTree (node_dec R) (node_exp R) (node_function R) (node_rule R) (Exp-F.Atom a u))
      (atom-made a R (R.type u))

  pub use-keeps : (x : Used) (ts : Vec ℕ Global) (u : ℕ) → exp_keeps n (Use x ts u)
  use-keeps x ts u R =
      by (ap (tree_of R) (sym (rolls-Use x ts u)) ∙ fold-roll-Exp DecTree t.Exp t.Fun RuleTree (node_dec R) (node_exp R) (node_function R) (node_rule R) (Exp-F.Use x ts u))
      (use-made x ts.items R (R.type u))

  pub raise-keeps : (a : ℕ) (e : Box Exp Global) → exp_keeps n e.value → exp_keeps n (Raise a e)
  raise-keeps a e k R =
      by (ap (tree_of R) (sym (rolls-Raise a e)) ∙ fold-roll-Exp DecTree t.Exp t.Fun RuleTree (node_dec R) (node_exp R) (node_function R) (node_rule R) (Exp-F.Raise a e)) (k R)

  pub fn-keeps : (a : ℕ) (f : Function) → function_keeps n f → exp_keeps n (Fn a f)
  fn-keeps a f k R =
      by (ap (tree_of R) (sym (rolls-Fn a f)) ∙ fold-roll-Exp DecTree t.Exp t.Fun RuleTree (node_dec R) (node_exp R) (node_function R) (node_rule R) (Exp-F.Fn a f)) (k R)

  pub counted-keeps : (c a : ℕ) (e : Box Exp Global) → exp_keeps n e.value → exp_keeps n (Counted c a e)
  counted-keeps c a e k R =
      by (ap (tree_of R) (sym (rolls-Counted c a e)) ∙ fold-roll-Exp DecTree t.Exp t.Fun RuleTree (node_dec R) (node_exp R) (node_function R) (node_rule R) (Exp-F.Counted c a e)) (k R)

-- both of two tests
pub both-true : (r a b : Bool) → r ≡ (a && b) → r ≡ true → (a ≡ true) × (b ≡ true)
both-true r true b e h = (refl, sym e ∙ h)
both-true r false b e h = absurd (cc)

-- one more element, and all
pub one-more : {A : Type 0} (P : A → Type 0) (xs : List A) (i : ℕ) (x : A) → i < length xs → All P (take i xs) → P (get_or xs i x) → All P (take (suc i) xs)
one-more P xs i x lt h k = rw (← add-one) (All-more P xs i x lt h k)

pub at-end : {A : Type 0} (P : A → Type 0) (xs : List A) (i : ℕ) → length xs ≤ i → All P (take i xs) → All P xs
at-end P xs i le h = subst (All P) (take_all i xs le) h

-- within a list it is all one what is read past its end
pub same-read : {A : Type 0} (xs : List A) (i : ℕ) (d e : A) → i < length xs → get_or xs i d ≡ get_or xs i e
same-read [] i d e lt = absurd (omega (arith, lt))
same-read (x ∷ xs) zero d e lt = refl
same-read (x ∷ xs) (suc i) d e lt = same-read xs i d e (omega (arith, lt))
