-- What is put only adds nodes.
use Rattle.std.proofs.Common.{◌≡◌, ◌≤◌, ℕ, zero, suc, Bool, true, List, [], ◌∷◌, take, drop, refl, arith}
use Rattle.ty_core.specs.Types.{Typ}
use Rattle.ty_core.specs.declared.scheme.Quantified.{Quantified}
use Rattle.ir_plain.specs.Tree.{Case, is_literal, is_con, is_con_of, is_exn, is_exn_of, is_record, Exp, Arms, Op, Fun, Funs}
use Rattle.ir_poly.specs.Tests.{poly}
use Rattle.plain_tree.specs.TreeOf.{StepTree, let_step, exception_step, name_step, rec_step, test_step, counted_step}
use Rattle.ir_poly.specs.Types.{changed}
use Rattle.monomorphise.specs.Monomorphise.{Groups, units, fun_vars}
use Rattle.mono_scopes.specs.Scopes.{binding}
use Rattle.mono_words.specs.Seen.{Seen, within, out, needed_types}
use Rattle.mono_words.specs.Made.{exp_made, arms_made, op_made, fun_made, bodies_made, case_entered, case_left, let_made, more_lets_made, group_made, more_groups_made, still_bare, entered_step, left_step, all_bare, entered_all, left_all}
use Rattle.mono_copy.specs.Changes.{acted, binding_made}

pub nodes-entered : (c : Case poly) (n : Seen) → (case_entered c n).nodes ≡ n.nodes
nodes-entered (is_literal l) n = refl
nodes-entered (is_con c) n = refl
nodes-entered (is_con_of c x t) n = refl
nodes-entered (is_exn u) n = refl
nodes-entered (is_exn_of u x t) n = refl
nodes-entered (is_record size) n = refl

pub nodes-left : (c : Case poly) (n : Seen) → (case_left c n).nodes ≡ n.nodes
nodes-left (is_literal l) n = refl
nodes-left (is_con c) n = refl
nodes-left (is_con_of c x t) n = refl
nodes-left (is_exn u) n = refl
nodes-left (is_exn_of u x t) n = refl
nodes-left (is_record size) n = refl

pub grows-acted : (g : Groups) (s : ℕ → Typ) (bare : Bool) (st : StepTree poly) (n : Seen) → n.nodes ≤ (acted bare g s st n).nodes
grows-acted g s bare (let_step x ps t o) n = omega arith
grows-acted g s bare (exception_step x i a) n = omega arith
grows-acted g s bare (name_step x y) n = omega arith
grows-acted g s bare (rec_step ps fs) n = omega arith
grows-acted g s bare (test_step u t c others) n = omega arith
grows-acted g s bare (counted_step k) n = omega arith

module _ (g : Groups) (s : ℕ → Typ) where
  pub grows-exp : (bare : Bool) (e : Exp poly) (n : Seen) → n.nodes ≤ (exp_made bare g s e n).nodes
  grows-exp bare e n = omega arith

  pub grows-arms : (bare : Bool) (arms : Arms poly) (n : Seen) → n.nodes ≤ (arms_made bare g s arms n).nodes
  grows-arms bare arms n = omega arith

  pub grows-op : (bare : Bool) (o : Op poly) (n : Seen) → n.nodes ≤ (op_made bare g s o n).nodes
  grows-op bare o n = omega arith

  pub grows-fun : (f : Fun poly) (n : Seen) → n.nodes ≤ (fun_made g s f n).nodes
  grows-fun f n = omega arith

  pub grows-bodies : (a : List Typ) (fs : Funs poly) (n : Seen) → n.nodes ≤ (bodies_made a g s fs n).nodes
  grows-bodies a fs n = omega arith

  pub grows-let : (bare : Bool) (x : ℕ) (ps : List Quantified) (t : Typ) (o : Op poly) (a : List Typ) (n : Seen) → n.nodes ≤ (let_made bare g s x ps t o a n).nodes
  grows-let bare x ps t o a n = omega arith

  pub grows-lets : (x : ℕ) (ps : List Quantified) (t : Typ) (o : Op poly) (ts : List (List Typ)) (n : Seen) → n.nodes ≤ (more_lets_made g s x ps t o ts n).nodes
  grows-lets x ps t o [] n = omega arith
  grows-lets x ps t o (a ∷ ts) n =
      let u = grows-lets x ps t o ts n in
      let v = grows-let true x ps t o a (more_lets_made g s x ps t o ts n) in
      omega (arith, u, v)

  pub grows-group : (ps : List Quantified) (fs : Funs poly) (a : List Typ) (n : Seen) → n.nodes ≤ (group_made g s ps fs a n).nodes
  grows-group ps fs a n = omega arith

  pub grows-groups : (ps : List Quantified) (fs : Funs poly) (ts : List (List Typ)) (n : Seen) → n.nodes ≤ (more_groups_made g s ps fs ts n).nodes
  grows-groups ps fs [] n = omega arith
  grows-groups ps fs (a ∷ ts) n =
      let u = grows-groups ps fs ts n in
      let v = grows-group ps fs a (more_groups_made g s ps fs ts n) in
      omega (arith, u, v)

  pub grows-entered : (bare : Bool) (st : StepTree poly) (n : Seen) → n.nodes ≤ (entered_step bare g s st n).nodes
  grows-entered bare (let_step x ps t o) n = omega arith
  grows-entered bare (exception_step x i a) n = omega arith
  grows-entered bare (name_step x y) n = omega arith
  grows-entered bare (rec_step ps fs) n = omega arith
  grows-entered bare (test_step u t c others) n = let e = nodes-entered c (arms_made bare g s others n) in let v = grows-arms bare others n in omega (arith, e, v)
  grows-entered bare (counted_step k) n = omega arith

  pub grows-left : (bare : Bool) (st : StepTree poly) (n : Seen) → n.nodes ≤ (left_step bare g s st n).nodes
  grows-left bare (let_step x ps t o) n =
      let u = grows-lets x ps t o (needed_types n.scopes) (out n) in
      let v = grows-let bare x ps t o (units ps) (more_lets_made g s x ps t o (needed_types n.scopes) (out n)) in
      omega (arith, u, v)
  grows-left bare (exception_step x i a) n = omega arith
  grows-left bare (name_step x y) n = omega arith
  grows-left bare (rec_step ps fs) n =
      let m = within (binding (fun_vars fs) (units ps) []) (out n) in
      let u = grows-groups ps fs (needed_types n.scopes) m in
      let v = grows-group ps fs (units ps) (more_groups_made g s ps fs (needed_types n.scopes) m) in
      omega (arith, u, v)
  grows-left bare (test_step u t c others) n = let e = nodes-left c n in omega (arith, e)
  grows-left bare (counted_step k) n = omega arith

  pub grows-entered-all : (bare : Bool) (ss : List (StepTree poly)) (n : Seen) → n.nodes ≤ (entered_all bare g s ss n).nodes
  grows-entered-all bare [] n = omega arith
  grows-entered-all bare (st ∷ ss) n =
      let u = grows-entered bare st n in
      let v = grows-entered-all (still_bare bare st) ss (entered_step bare g s st n) in
      omega (arith, u, v)

  pub grows-left-all : (bare : Bool) (ss : List (StepTree poly)) (n : Seen) → n.nodes ≤ (left_all bare g s ss n).nodes
  grows-left-all bare [] n = omega arith
  grows-left-all bare (st ∷ ss) n =
      let u = grows-left-all (still_bare bare st) ss n in
      let v = grows-left bare st (left_all (still_bare bare st) g s ss n) in
      omega (arith, u, v)

  pub entered-part : (bare : Bool) (k : ℕ) (ss : List (StepTree poly)) (n : Seen) → (entered_all bare g s (take k ss) n).nodes ≤ (entered_all bare g s ss n).nodes
  entered-part bare zero ss n = grows-entered-all bare ss n
  entered-part bare (suc k) [] n = omega arith
  entered-part bare (suc k) (st ∷ ss) n = entered-part (still_bare bare st) k ss (entered_step bare g s st n)

  pub left-part : (bare : Bool) (k : ℕ) (ss : List (StepTree poly)) (n : Seen) → (left_all (all_bare bare (take k ss)) g s (drop k ss) n).nodes ≤ (left_all bare g s ss n).nodes
  left-part bare zero ss n = omega arith
  left-part bare (suc k) [] n = omega arith
  left-part bare (suc k) (st ∷ ss) n =
      let u = left-part (still_bare bare st) k ss n in
      let v = grows-left bare st (left_all (still_bare bare st) g s ss n) in
      omega (arith, u, v)

  pub grows-binding : (bare : Bool) (x : ℕ) (ps : List Quantified) (t : Typ) (st : StepTree poly) (a : List Typ) (n : Seen) → n.nodes ≤ (binding_made bare g s x ps t st a n).nodes
  grows-binding bare x ps t st a n = grows-acted g (changed ps a s) bare st n
