-- What applications begin with.
use Rattle.std.proofs.Common.{◌≡◌, ◌≢◌, ℕ, zero, suc, Bool, true, false, ◌&&◌, List, [], ◌∷◌, map, length, nat_eq, Vec, Box, Global, refl, sym, ap, ◌∙◌, subst, arith}
use Rattle.std.proofs.lemmas.Bool.{false≢true, eqb-true}
use Rattle.mlc_names.specs.declared.label.Label.{Label}
use Rattle.mlc_names.specs.declared.label.Label.TheVariants.{Number}
use Rattle.mlc_base.specs.declared.place.Place.{Place}
use Rattle.ir_values.specs.Values.{same_label}
use Rattle.ty_core.specs.Types.{Typ}
use Rattle.ty_core.specs.declared.scheme.Quantified.{Quantified}
use Rattle.ir_plain.specs.Tree.{no_atoms}
use Rattle.ir_poly.specs.Prog as t
use Rattle.ir_poly.specs.Tests.{Tests}
use Rattle.match_compile.specs.Compile.{Names, way, by_call, is_tuple, are_numbered, weighed, past_tuple, tuple_atoms, making_tuple, fits_all}
use Rattle.prog_tree.specs.TreeOf.{Reading, PatFieldTree, node_pat, node_pat_field, node_pat_part, DecTree, RuleTree, node_dec, node_exp, node_function, node_rule, atom_of, use_of, dec_of, decs_of, rule_of, rules_of, chain_of, function_of, tree_of, pat_of, apply_by, left_joins, joins_by, join, before, sequence_of, argument_of, join_of, field_of, record_of, chain_pats, left_pats, right_pats, pat_part_of, PatPartTree, join_pats}
use Rattle.prog_tree.specs.declared.tree.Atom.{Atom}
use Rattle.prog_tree.specs.declared.tree.Atom.TheVariants as atoms
use Rattle.prog_tree.specs.declared.tree.Used.{Used}
use Rattle.prog_tree.specs.declared.tree.Used.TheVariants as uses
use Rattle.prog_tree.specs.declared.tree.Dec.{Dec}
use Rattle.prog_tree.specs.declared.tree.Rule.{Rule}
use Rattle.prog_tree.specs.declared.tree.Function.{Function}
use Rattle.prog_tree.specs.declared.tree.Exp.{Exp, Exp-F, fold-roll-Exp}
use Rattle.prog_tree.specs.declared.tree.Exp.TheVariants as exps
use Rattle.prog_tree.specs.declared.tree.Join.{Join}
use Rattle.prog_tree.specs.declared.tree.Side.{Side}
use Rattle.prog_tree.specs.declared.tree.Side.TheVariants as side
use Rattle.prog_tree.specs.declared.tree.Head.{Head}
use Rattle.prog_tree.specs.declared.tree.Head.TheVariants as head
use Rattle.prog_tree.specs.declared.tree.Pat.{Pat, Pat-F, fold-roll-Pat}
use Rattle.prog_tree.specs.declared.tree.Pat.TheVariants as pats
use Rattle.prog_tree.specs.declared.tree.PatPart.{PatPart}
use Rattle.prog_tree.proofs.ExpOf.{tree_of-Record, tree_of-Let, tree_of-Apply, tree_of-Infix, tree_of-Case, tree_of-Sequence, tree_of-Test, tree_of-Handle, pat_of-Chain}
use Rattle.exp_steps.specs.Ways.{labels_from, operands}

-- an expression that is made whole wherever it stands: neither a record nor one that counts
abbrev is_plain : t.Exp → Bool
is_plain (t.constant_exp l u) = true
is_plain (t.variable_exp x ts u) = true
is_plain (t.own_exp x u) = true
is_plain (t.con_exp c y ts u) = true
is_plain (t.ref_exp a u) = true
is_plain (t.exn_exp x u) = true
is_plain (t.prim_exp p ts u) = true
is_plain (t.let_exp u ds d) = true
is_plain (t.app_exp p u f a) = true
is_plain (t.case_exp p u d rs) = true
is_plain (t.chain_exp b u c) = true
is_plain (t.handle_exp u d rs) = true
is_plain (t.raise_exp u d) = true
is_plain (t.fn_exp u f) = true
is_plain (t.fields_exp u fs) = false
is_plain (t.counted_exp k u d) = false

pub record IsAlone (e : t.Exp) : Type 0 where
  pub tuple : (k : ℕ) → is_tuple k e ≡ false
  pub weights : (rest : Tests) → weighed e rest ≡ rest
  pub past : (n : ℕ) → past_tuple e n ≡ n
  pub atoms : (n : ℕ) → tuple_atoms e n ≡ no_atoms
  pub made : (D : List Quantified) (N : Names) (n : ℕ) (rest : Tests) → making_tuple D N e n rest ≡ rest

plain-alone : (e : t.Exp) → is_plain e ≡ true → IsAlone e
plain-alone (t.constant_exp l u) e = record { tuple = λ k. refl; weights = λ rest. refl; past = λ n. refl; atoms = λ n. refl; made = λ D N n rest. refl }
plain-alone (t.variable_exp x ts u) e = record { tuple = λ k. refl; weights = λ rest. refl; past = λ n. refl; atoms = λ n. refl; made = λ D N n rest. refl }
plain-alone (t.own_exp x u) e = record { tuple = λ k. refl; weights = λ rest. refl; past = λ n. refl; atoms = λ n. refl; made = λ D N n rest. refl }
plain-alone (t.con_exp c y ts u) e = record { tuple = λ k. refl; weights = λ rest. refl; past = λ n. refl; atoms = λ n. refl; made = λ D N n rest. refl }
plain-alone (t.ref_exp a u) e = record { tuple = λ k. refl; weights = λ rest. refl; past = λ n. refl; atoms = λ n. refl; made = λ D N n rest. refl }
plain-alone (t.exn_exp x u) e = record { tuple = λ k. refl; weights = λ rest. refl; past = λ n. refl; atoms = λ n. refl; made = λ D N n rest. refl }
plain-alone (t.prim_exp p ts u) e = record { tuple = λ k. refl; weights = λ rest. refl; past = λ n. refl; atoms = λ n. refl; made = λ D N n rest. refl }
plain-alone (t.let_exp u ds d) e = record { tuple = λ k. refl; weights = λ rest. refl; past = λ n. refl; atoms = λ n. refl; made = λ D N n rest. refl }
plain-alone (t.app_exp p u f a) e = record { tuple = λ k. refl; weights = λ rest. refl; past = λ n. refl; atoms = λ n. refl; made = λ D N n rest. refl }
plain-alone (t.case_exp p u d rs) e = record { tuple = λ k. refl; weights = λ rest. refl; past = λ n. refl; atoms = λ n. refl; made = λ D N n rest. refl }
plain-alone (t.chain_exp b u c) e = record { tuple = λ k. refl; weights = λ rest. refl; past = λ n. refl; atoms = λ n. refl; made = λ D N n rest. refl }
plain-alone (t.handle_exp u d rs) e = record { tuple = λ k. refl; weights = λ rest. refl; past = λ n. refl; atoms = λ n. refl; made = λ D N n rest. refl }
plain-alone (t.raise_exp u d) e = record { tuple = λ k. refl; weights = λ rest. refl; past = λ n. refl; atoms = λ n. refl; made = λ D N n rest. refl }
plain-alone (t.fn_exp u f) e = record { tuple = λ k. refl; weights = λ rest. refl; past = λ n. refl; atoms = λ n. refl; made = λ D N n rest. refl }
plain-alone (t.fields_exp u fs) e = absurd (false≢true e)
plain-alone (t.counted_exp k u d) e = absurd (false≢true e)

-- and of which an application is a call
pub record IsOther (e : t.Exp) : Type 0 where
  pub heads : (a : t.Exp) → way e a ≡ by_call
  pub alone : IsAlone e

app-other : (p : Place) (u : Typ) (f a : t.Exp) → IsOther (t.app_exp p u f a)
app-other p u f a = record { heads = λ b. refl; alone = plain-alone (t.app_exp p u f a) refl }

case-other : (p : Place) (u : Typ) (e : t.Exp) (rs : t.Rules) → IsOther (t.case_exp p u e rs)
case-other p u e rs = record { heads = λ b. refl; alone = plain-alone (t.case_exp p u e rs) refl }

applied-other : (g : ℕ → Typ) (p : Place) (f : t.Exp) (as_ : List (ℕ × t.Exp)) → IsOther f → IsOther (apply_by g p f as_)
applied-other g p f [] o = o
applied-other g p f (a ∷ as_) o = applied-other g p (t.app_exp p (g a.0) f a.1) as_ (app-other p (g a.0) f a.1)

left-other : (g : ℕ → Typ) (e : t.Exp) (js : List (Join × t.Exp × t.Exp)) → IsOther e → IsOther (left_joins g e js)
left-other g e [] o = o
left-other g e (j ∷ js) o = left-other g (join g j.0 j.1 e j.2) js (app-other _ _ _ _)

pub no-elements : {A : Type 0} (xs : List A) → nat_eq (length xs) 0 ≡ true → xs ≡ []
no-elements [] e = refl
no-elements (x ∷ xs) e = absurd (omega (arith, eqb-true (length (x ∷ xs)) 0 e))

-- elements are counted
pub items-counted : {A : Type 0} (v : Vec A Global) (b : Bool) → nat_eq v.len 0 ≡ b → nat_eq (length v.items) 0 ≡ b
items-counted v b e = ap (λ n. nat_eq n 0) (let k : length v.items ≡ v.len = omega (arith, v.ok.0) in k) ∙ e

unequal : (a b : ℕ) (y : Bool) → nat_eq a b ≡ y → a ≢ b → nat_eq a b ≡ false
unequal a b true e h = absurd (h (eqb-true a b e))
unequal a b false e h = e

-- operands are a tuple of two
pub operands-two : (n : ℕ) (u : Typ) (d e : t.Exp) → is_tuple n (operands u d e) ≡ nat_eq n 2
operands-two zero u d e = refl
operands-two (suc zero) u d e = refl
operands-two (suc (suc zero)) u d e = refl
operands-two (suc (suc (suc k))) u d e = sym (unequal (suc (suc (suc k))) 2 (nat_eq (suc (suc (suc k))) 2) refl (λ q. omega (arith, q)))

module _ (R : Reading) where
  pub counted-node : (n a : ℕ) (e : Box Exp Global) → tree_of R (exps.Counted n a e) ≡ t.counted_exp n (R.type a) (tree_of R e.value)
  counted-node n a e = ap (tree_of R) (sym (exps.rolls-Counted n a e)) ∙ fold-roll-Exp DecTree t.Exp t.Fun RuleTree (node_dec R) (node_exp R) (node_function R) (node_rule R) (Exp-F.Counted n a e)

  -- nodes that are made whole
  atom-plain : (a : Atom) (u : Typ) → is_plain (atom_of R a u) ≡ true
  atom-plain (atoms.Constant c) u = refl
  atom-plain (atoms.Own x) u = refl
  atom-plain (atoms.Exception x) u = refl
  atom-plain (atoms.Reference b) u = refl

  used-plain : (x : Used) (ts : List ℕ) (u : Typ) → is_plain (use_of R x ts u) ≡ true
  used-plain (uses.Variable x) ts u = refl
  used-plain (uses.Constructor c y) ts u = refl
  used-plain (uses.Primitive p) ts u = refl

  by-node : (e d : t.Exp) → e ≡ d → is_plain d ≡ true → IsAlone e
  by-node e d is plain = subst IsAlone (sym is) (plain-alone d plain)

  pub atom-alone : (a : Atom) (u : ℕ) → IsAlone (tree_of R (exps.Atom a u))
  atom-alone a u = by-node _ (atom_of R a (R.type u)) (ap (tree_of R) (sym (exps.rolls-Atom a u)) ∙ fold-roll-Exp DecTree t.Exp t.Fun RuleTree (node_dec R) (node_exp R) (node_function R) (node_rule R) (Exp-F.Atom a u)) (atom-plain a (R.type u))

  pub used-alone : (x : Used) (ts : Vec ℕ Global) (u : ℕ) → IsAlone (tree_of R (exps.Use x ts u))
  used-alone x ts u = by-node _ (use_of R x ts.items (R.type u)) (ap (tree_of R) (sym (exps.rolls-Use x ts u)) ∙ fold-roll-Exp DecTree t.Exp t.Fun RuleTree (node_dec R) (node_exp R) (node_function R) (node_rule R) (Exp-F.Use x ts u)) (used-plain x ts.items (R.type u))

  pub let-alone : (u : ℕ) (ds : Vec Dec Global) (e : Box Exp Global) → IsAlone (tree_of R (exps.Let u ds e))
  let-alone u ds e = by-node _ (t.let_exp (R.type u) (decs_of (map (dec_of R) ds.items)) (tree_of R e.value)) (tree_of-Let R u ds e) refl

  pub case-alone : (p : Place) (u : ℕ) (e : Box Exp Global) (rs : Vec Rule Global) → IsAlone (tree_of R (exps.Case p u e rs))
  case-alone p u e rs = by-node _ (t.case_exp p (R.type u) (tree_of R e.value) (rules_of (map (rule_of R) rs.items))) (tree_of-Case R p u e rs) refl

  pub test-alone : (b : Bool) (u : ℕ) (es : Vec Exp Global) (e : Box Exp Global) → IsAlone (tree_of R (exps.Test b u es e))
  test-alone b u es e = by-node _ (t.chain_exp b (R.type u) (chain_of (map (tree_of R) es.items) (tree_of R e.value))) (tree_of-Test R b u es e) refl

  pub handle-alone : (u : ℕ) (e : Box Exp Global) (rs : Vec Rule Global) → IsAlone (tree_of R (exps.Handle u e rs))
  handle-alone u e rs = by-node _ (t.handle_exp (R.type u) (tree_of R e.value) (rules_of (map (rule_of R) rs.items))) (tree_of-Handle R u e rs) refl

  pub raise-alone : (u : ℕ) (e : Box Exp Global) → IsAlone (tree_of R (exps.Raise u e))
  raise-alone u e = by-node _ (t.raise_exp (R.type u) (tree_of R e.value)) (ap (tree_of R) (sym (exps.rolls-Raise u e)) ∙ fold-roll-Exp DecTree t.Exp t.Fun RuleTree (node_dec R) (node_exp R) (node_function R) (node_rule R) (Exp-F.Raise u e)) refl

  pub fn-alone : (u : ℕ) (f : Function) → IsAlone (tree_of R (exps.Fn u f))
  fn-alone u f = by-node _ (t.fn_exp (R.type u) (function_of R f)) (ap (tree_of R) (sym (exps.rolls-Fn u f)) ∙ fold-roll-Exp DecTree t.Exp t.Fun RuleTree (node_dec R) (node_exp R) (node_function R) (node_rule R) (Exp-F.Fn u f)) refl

  pub record-weightless : (u : ℕ) (fs : Vec (Label × Exp) Global) (rest : Tests) → weighed (tree_of R (exps.Record u fs)) rest ≡ rest
  record-weightless u fs rest = ap (λ e. weighed e rest) (tree_of-Record R u fs)

  apply-items : (p : Place) (f : t.Exp) (as_ : List (ℕ × Exp)) → nat_eq (length as_) 0 ≡ false → IsOther (apply_by R.type p f (map (argument_of R) as_))
  apply-items p f [] e = absurd (false≢true (sym e))
  apply-items p f (a ∷ as_) e = applied-other R.type p (t.app_exp p (R.type a.0) f (tree_of R a.1)) (map (argument_of R) as_) (app-other _ _ _ _)

  pub apply-many : (p : Place) (f : Box Exp Global) (as_ : Vec (ℕ × Exp) Global) → nat_eq as_.len 0 ≡ false → IsOther (tree_of R (exps.Apply p f as_))
  apply-many p f as_ e = subst IsOther (sym (tree_of-Apply R p f as_)) (apply-items p (tree_of R f.value) as_.items (items-counted as_ false e))

  pub apply-alone : (p : Place) (f : Box Exp Global) (as_ : Vec (ℕ × Exp) Global) → nat_eq as_.len 0 ≡ true → tree_of R (exps.Apply p f as_) ≡ tree_of R f.value
  apply-alone p f as_ e = tree_of-Apply R p f as_ ∙ ap (λ l. apply_by R.type p (tree_of R f.value) (map (argument_of R) l)) (no-elements as_.items (items-counted as_ true e))

  abbrev joins : Side → t.Exp → List (Join × Exp × Exp) → t.Exp
  joins s f js = joins_by R.type s f (map (join_of R) js)

  infix-items : (s : Side) (f : t.Exp) (js : List (Join × Exp × Exp)) → nat_eq (length js) 0 ≡ false → IsOther (joins s f js)
  infix-items s f [] e = absurd (false≢true (sym e))
  infix-items side.Left f (j ∷ js) e = left-other R.type (join R.type j.0 (tree_of R j.1) f (tree_of R j.2)) (map (join_of R) js) (app-other _ _ _ _)
  infix-items side.Right f (j ∷ js) e = app-other _ _ _ _

  pub infix-many : (s : Side) (f : Box Exp Global) (js : Vec (Join × Exp × Exp) Global) → nat_eq js.len 0 ≡ false → IsOther (tree_of R (exps.Infix s f js))
  infix-many s f js e = subst IsOther (sym (tree_of-Infix R s f js)) (infix-items s (tree_of R f.value) js.items (items-counted js false e))

  no-joins : (s : Side) (f : t.Exp) → joins s f [] ≡ f
  no-joins side.Left f = refl
  no-joins side.Right f = refl

  pub infix-alone : (s : Side) (f : Box Exp Global) (js : Vec (Join × Exp × Exp) Global) → nat_eq js.len 0 ≡ true → tree_of R (exps.Infix s f js) ≡ tree_of R f.value
  infix-alone s f js e = tree_of-Infix R s f js ∙ ap (joins s (tree_of R f.value)) (no-elements js.items (items-counted js true e)) ∙ no-joins s (tree_of R f.value)

  sequence-items : (p : Place) (u : Typ) (es : List Exp) (e : t.Exp) → nat_eq (length es) 0 ≡ false → IsOther (sequence_of p u (map (tree_of R) es) e)
  sequence-items p u [] e k = absurd (false≢true (sym k))
  sequence-items p u (d ∷ es) e k = case-other _ _ _ _

  pub sequence-many : (p : Place) (u : ℕ) (es : Vec Exp Global) (e : Box Exp Global) → nat_eq es.len 0 ≡ false → IsOther (tree_of R (exps.Sequence p u es e))
  sequence-many p u es e k = subst IsOther (sym (tree_of-Sequence R p u es e)) (sequence-items p (R.type u) es.items (tree_of R e.value) (items-counted es false k))

  pub sequence-alone : (p : Place) (u : ℕ) (es : Vec Exp Global) (e : Box Exp Global) → nat_eq es.len 0 ≡ true → tree_of R (exps.Sequence p u es e) ≡ tree_of R e.value
  sequence-alone p u es e k = tree_of-Sequence R p u es e ∙ ap (λ l. sequence_of p (R.type u) (map (tree_of R) l) (tree_of R e.value)) (no-elements es.items (items-counted es true k))

  numbered : (l : ℕ) (fs : List (Label × Exp)) → are_numbered l (length fs) (record_of (map (field_of R) fs)) ≡ labels_from l fs
  numbered l [] = refl
  numbered l (f ∷ fs) = ap (λ b. same_label (Number l) f.0 && b) (numbered (suc l) fs)

  pub record-numbered : (k u : ℕ) (fs : Vec (Label × Exp) Global) → length fs.items ≡ k → is_tuple k (tree_of R (exps.Record u fs)) ≡ labels_from 1 fs.items
  record-numbered k u fs e = ap (λ n. is_tuple n (tree_of R (exps.Record u fs))) (sym e) ∙ ap (is_tuple (length fs.items)) (tree_of-Record R u fs) ∙ numbered 1 fs.items

  and-false : (b : Bool) → b && false ≡ false
  and-false true = refl
  and-false false = refl

  miscounted : (l k : ℕ) (fs : List (Label × Exp)) → length fs ≢ k → are_numbered l k (record_of (map (field_of R) fs)) ≡ false
  miscounted l zero [] e = absurd (e refl)
  miscounted l zero (f ∷ fs) e = refl
  miscounted l (suc k) [] e = refl
  miscounted l (suc k) (f ∷ fs) e = ap (λ b. same_label (Number l) f.0 && b) (miscounted (suc l) k fs (λ q. e (ap suc q))) ∙ and-false (same_label (Number l) f.0)

  pub record-miscounted : (k u : ℕ) (fs : Vec (Label × Exp) Global) → length fs.items ≢ k → is_tuple k (tree_of R (exps.Record u fs)) ≡ false
  record-miscounted k u fs e = ap (is_tuple k) (tree_of-Record R u fs) ∙ miscounted 1 k fs.items e

  -- patterns
  pub as-node : (x : ℕ) (p : Box Pat Global) → pat_of R (pats.As x p) ≡ t.as_pat x (pat_of R p.value)
  as-node x p = ap (pat_of R) (sym (pats.rolls-As x p)) ∙ fold-roll-Pat t.Pat PatFieldTree PatPartTree (node_pat R) (node_pat_field R) (node_pat_part R) (Pat-F.As x p)

  joined-misfit : (j : PatPartTree) (p q : t.Pat) → fits_all (join_pats j p q) ≡ false
  joined-misfit j p q = behind j.head
    where
      behind : (h : Head) → fits_all (before h j.whole (t.fields_pat false (t.a_pat (Number 1) j.left p (t.a_pat (Number 2) j.right q t.no_pats)))) ≡ false
      behind (head.Constructor c) = refl
      behind head.Reference = refl
      behind (head.Exception x) = refl

  left-misfit : (p : t.Pat) (js : List PatPartTree) → fits_all p ≡ false → fits_all (left_pats p js) ≡ false
  left-misfit p [] e = e
  left-misfit p (j ∷ js) e = left-misfit (join_pats j p j.pat) js (joined-misfit j p j.pat)

  chain-items : (s : Side) (p : t.Pat) (js : List PatPart) → nat_eq (length js) 0 ≡ false → fits_all (chain_pats s p (map (pat_part_of R) js)) ≡ false
  chain-items s p [] e = absurd (false≢true (sym e))
  chain-items side.Left p (j ∷ js) e = let k = pat_part_of R j in left-misfit (join_pats k p k.pat) (map (pat_part_of R) js) (joined-misfit k p k.pat)
  chain-items side.Right p (j ∷ js) e = let k = pat_part_of R j in joined-misfit k p (right_pats k.pat (map (pat_part_of R) js))

  pub chain-many : (s : Side) (p : Box Pat Global) (js : Vec PatPart Global) → nat_eq js.len 0 ≡ false → fits_all (pat_of R (pats.Chain s p js)) ≡ false
  chain-many s p js e = ap fits_all (pat_of-Chain R s p js) ∙ chain-items s (pat_of R p.value) js.items (items-counted js false e)

  no-parts : (s : Side) (p : t.Pat) → chain_pats s p [] ≡ p
  no-parts side.Left p = refl
  no-parts side.Right p = refl

  pub chain-alone : (s : Side) (p : Box Pat Global) (js : Vec PatPart Global) → nat_eq js.len 0 ≡ true → pat_of R (pats.Chain s p js) ≡ pat_of R p.value
  chain-alone s p js e = pat_of-Chain R s p js ∙ ap (λ l. chain_pats s (pat_of R p.value) (map (pat_part_of R) l)) (no-elements js.items (items-counted js true e)) ∙ no-parts s (pat_of R p.value)
