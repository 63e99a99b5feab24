-- The converted program does what the program does, unless that goes wrong.
use Rattle.std.proofs.Common.{◌≡◌, ℕ, zero, suc, ◌<◌, length, List, [], ◌∷◌, map, Option, Some, Bool, true, false, ◌||◌, if◌then◌else◌, nat_eq, get_or, slice_get, refl, sym, ap, subst, ◌∙◌, arith}
use Rattle.std.specs.Prelude.{option_map}
use Rattle.std.proofs.lemmas.Bool.{ltb-true}
use Rattle.mlc_runs.specs.Run.{World, Answer, gives, raises, then_do, fail, or_fail}
use Rattle.mlc_runs.specs.Refinement.{both_give, both_raise, first_wrong}
use Rattle.mlc_base.specs.declared.place.Place.{Place}
use Rattle.mlc_runs.proofs.RefineLaws.{then_do-refines, or_handle-refines, weaker, new_reference-refines, new_exception-refines}
use Rattle.ir_values.specs.Values.{exn, exn_of, con, con_of, closure, bind, cell, value_of}
use Rattle.ir_values.specs.Match.{matches, after_match, against_exn, under_exn, against_con, under_con}
use Rattle.ir_values.specs.Primitives as prims
use Rattle.ir_plain.specs.Tree as m
use Rattle.ir_plain.specs.Tree.{is_literal, is_con, is_con_of, is_exn, is_exn_of, is_record, Exception, fixed, held, Atoms, no_atoms, an_atom, Row, no_row, a_row, Fun, last, more, Funs, no_funs, fun}
use Rattle.ir_plain.specs.Meaning as src
use Rattle.ir_plain.specs.Meaning.{Code, alone, one_of, look_up, Apply, Parts}
use Rattle.ir_explicit.specs.of_ir_mono.Types.{by_number, unit_number, constructor_at, IsTable, Is, AreDistinct}
use Rattle.ir_explicit.specs.of_ir_mono.Mono.{mono, Mono}
use Rattle.first_values.specs.Values as cells
use Rattle.first_values.specs.Operations as op
use Rattle.ir_first.specs.Tree as out
use Rattle.ir_first.specs.Meaning.{Calls}
use Rattle.ir_first.specs.Continued as tgt
use Rattle.closure_convert.specs.of_flow_sets.Member.{is_in, Within}
use Rattle.closure_convert.specs.of_flow_sets.Flow as spots
use Rattle.closure_convert.specs.of_flow_sets.Flow.{variable, result, at, number_of, Connects, SolvesRow, SolvesPrim, SolvesCase, Solves, SolvesArms, SolvesOp, SolvesFun, SolvesFuns}
use Rattle.closure_convert.proofs.of_flow_sets.Member.{nat_eq-to}
use Rattle.closure_convert.specs.Scope.{Scope, add, add_all, names, reaches}
use Rattle.closure_convert.specs.Closed.{IsLocal, scope_of, members, leader, IsClosed, ArmsClosed, OpClosed, FunClosed, FunsClosed, AtomsClosed, RowClosed}
use Rattle.closure_meaning.specs.Convert as conv
use Rattle.closure_meaning.specs.Convert.{holder, follower, given, spare, var, access, con_tag}
use Rattle.closure_meaning.specs.Laws.{TagsApart}
use Rattle.closure_meaning.specs.Fits.{Setting, IsValue, IsName, IsInitial, AtomsFit, RowFits, no_row_fits, a_row_fits, Fits, ArmsFit, OpFits, FunFits, FunsFit}
use Rattle.closure_meaning.proofs.Related.{Val, IsOneOf, widen, of-none, fun_of, group_of, code_number, Coded, CodedArms, CodedOp, CodedFun, CodedFuns, CodedIn, Good, AllGood, Same, same_literal, same_record, same_con, same_con_of, same_exn, same_exn_of, same_ref, same_primitive, same_address, same_cell, same_closure, SameFields, no_fields_same, a_field_same, Stands, is_name, is_value, SameCaptured, Given, R}
use Rattle.closure_meaning.proofs.Related as rel
use Rattle.closure_meaning.proofs.Known.{different, here, past, past-holder, Found, found, Known, access-is, local-known, known-bind, known-between, known-body, stands, making-by, group-by}
use Rattle.closure_meaning.proofs.Performed.{T, Worlds, Re, literal-same, literal-one, AtomsSame, no_same, more_same, perform-same, plain-is}
use Rattle.closure_meaning.proofs.Arms as arms
use Rattle.closure_meaning.proofs.Handled.{member-found, set-at, read-same, select-same, raise-same, marked-same}

slice-found : {A : Type 0} (xs : List A) (i : ℕ) → i < length xs → (x : A) × (slice_get xs i ≡ Some x)
slice-found [] i h = absurd (omega arith)
slice-found (x ∷ xs) zero h = (x, refl)
slice-found (x ∷ xs) (suc i) h = slice-found xs i (omega arith)

module _ (C : Setting) (all : List out.Fun) (sound : IsTable C.types) where
  abbrev V : Type 0
  V = Val C.types

  abbrev Env : Type 0
  Env = src.Scope (mono C.types)

  abbrev S : V → cells.Value → Type 0
  S = Same C all

  abbrev W : World V → World cells.Value → Type 0
  W = Worlds C all sound

  abbrev Q : List ℕ → Answer V V → cells.Run cells.Value → Type 0
  Q = Re C all sound

  abbrev K : Scope → Env → cells.Env → Type 0
  K = Known C all

  abbrev TT : op.Tables
  TT = T C all sound

  abbrev One : V → ℕ → Type 0
  One v x = IsOneOf C.types v (at C.flow (variable x))

  abbrev cv : Scope → Mono C.types → out.Exp
  cv s e = conv.convert C.numbering C.types C.flow C.captures s e

  widen-given : {ks ls : List ℕ} → Within ks ls → (v : V) (v' : cells.Value) → Given C all ks v v' → Given C all ls v v'
  widen-given h v v' g = record { same = g.same; is = widen C.types v h g.is }

  up : {ks ls : List ℕ} {r : Answer V V} {r' : cells.Run cells.Value} → Within ks ls → Q ks r r' → Q ls r r'
  up {ks} {ls} h r = weaker (R C all) (Given C all ls) r (widen-given h)

  module _ (apart : TagsApart C.numbering C.flow) (ap1 : Apply (mono C.types)) (ap2 : Calls) (calls : arms.CallsSame C all sound ap1 ap2) where
    abbrev ev : out.Exp → cells.Env → World cells.Value → (World cells.Value → cells.Run cells.Value) → cells.Run cells.Value
    ev = tgt.eval TT ap2

    abbrev ev_op : out.Op → cells.Env → World cells.Value → cells.Run cells.Value
    ev_op = tgt.eval_op TT ap2

    -- an operation on one operand, and on two
    one-operand : {ks : List ℕ} (P : op.Plain) (a : ℕ) (s : Scope) (env : Env) (ρ : cells.Env) (w : World V) (u : World cells.Value) (f : V → Answer V V) → K s env ρ → IsLocal s a → IsValue C a → ((v : V) (v' : cells.Value) → S v v' → One v a → Q ks (f v) (op.perform TT P (v' ∷ []) u)) → Q ks (or_fail (look_up a env) w f) (ev_op (out.plain P (var a ∷ [])) ρ u)
    one-operand {ks} P a s env ρ w u f known l i h = arms.with-value C all sound s env ρ a w f known l i (λ v v' is same isin. subst (λ r. Q ks (f v) r) (plain-is C all sound ap2 P (var a ∷ []) ρ u (arms.one-there C all sound a ρ is)) (h v v' same isin))

    -- Calls

    wrong-call : {ks : List ℕ} (p : Place) (v a : V) (w : World V) (r : cells.Run cells.Value) → arms.is_closure C all sound v ≡ false → Q ks (ap1 p v a w) r
    wrong-call {ks} p v a w r h = subst (λ x. Q ks x r) (sym (calls.others p v a w h)) (first_wrong r)

    -- what is left is to make the call
    module _ (p : Place) (fs as_ to : List ℕ) (connects : Connects C.types C.flow fs as_ to) where
      called : (q : Bool) (c : Code (mono C.types)) (g : ℕ) (env : Env) (r : cells.Values) (a : V) (a' : cells.Value) (w : World V) (u : World cells.Value) → Good C all q g (group_of C.types c) (fun_of C.types c) → AllGood C all true g (group_of C.types c) (group_of C.types c) → SameCaptured C all (C.captures.captured g) env r → is_in (code_number C.types c) fs ≡ true → S a a' → IsOneOf C.types a as_ → W w u →
          Q to (ap1 p (closure c env) a w) (ap2 p (C.numbering.function (code_number C.types c)) (cells.cell (C.numbering.tag (code_number C.types c)) (rel.held q (C.numbering.tag g) r) ∷ a' ∷ []) u)
      called q c g env r a a' w u good all_good same_c isin same_a isin_a s =
          let both = connects (code_number C.types c) isin in
          up both.1 (calls.functions p q c g env r a a' w u good all_good same_c same_a (widen C.types a both.0 isin_a) s)

      dispatched : (n : ℕ) → Within fs (get_or C.flow.sets n []) → (g a : V) (g' a' : cells.Value) (w : World V) (u : World cells.Value) → S g g' → IsOneOf C.types g fs → S a a' → IsOneOf C.types a as_ → W w u →
          Q to (ap1 p g a w) (or_fail (op.of_closure (get_or (map (conv.set_of C.numbering) C.flow.sets) n []) (Some g') (a' ∷ [])) u (λ f. ap2 p f.function f.arguments u))
      dispatched n within f a f' a' w u (same_closure q c g {env = env} {r = r} good all_good same_c) isin same_a isin_a s =
          subst (λ o. Q to (ap1 p (closure c env) a w) (or_fail {B = op.Called} (option_map (λ k. record { function = k; arguments = cells.cell (C.numbering.tag (code_number C.types c)) (rel.held q (C.numbering.tag g) r) ∷ a' ∷ [] }) o) u (λ f. ap2 p f.function f.arguments u)))
          (sym (ap (op.member_at (C.numbering.tag (code_number C.types c))) (set-at C.numbering C.flow.sets n)
          ∙ member-found C.numbering (code_number C.types c) (get_or C.flow.sets n []) (within.all (code_number C.types c) isin) (λ j i t. apart n (code_number C.types c) j (within.all (code_number C.types c) isin) i t)))
          (called q c g env r a a' w u good all_good same_c isin same_a isin_a s)
      dispatched n within f a f' a' w u _ isin same_a isin_a s = wrong-call p f a w _ refl

      directly : (k : ℕ) → Within fs (k ∷ []) → (g a : V) (g' a' : cells.Value) (w : World V) (u : World cells.Value) → S g g' → IsOneOf C.types g fs → S a a' → IsOneOf C.types a as_ → W w u → Q to (ap1 p g a w) (ap2 p (C.numbering.function k) (g' ∷ a' ∷ []) u)
      directly k within f a f' a' w u (same_closure q c g {env = env} {r = r} good all_good same_c) isin same_a isin_a s =
          subst (λ j. Q to (ap1 p (closure c env) a w) (ap2 p (C.numbering.function j) (cells.cell (C.numbering.tag (code_number C.types c)) (rel.held q (C.numbering.tag g) r) ∷ a' ∷ []) u)) (nat_eq-to (code_number C.types c) k (unor (nat_eq (code_number C.types c) k) (within.all (code_number C.types c) isin)))
          (called q c g env r a a' w u good all_good same_c isin same_a isin_a s)
        where
          unor : (b : Bool) → (b || false) ≡ true → b ≡ true
          unor true e = refl
          unor false e = e
      directly k within f a f' a' w u _ isin same_a isin_a s = wrong-call p f a w _ refl

      dispatch-op : (n f a : ℕ) (s : Scope) (env : Env) (ρ : cells.Env) (w : World V) (u : World cells.Value) → Within fs (get_or C.flow.sets n []) → at C.flow (variable f) ≡ fs → at C.flow (variable a) ≡ as_ → K s env ρ → IsLocal s f → IsValue C f → IsLocal s a → IsValue C a → W w u → Q to (or_fail (look_up f env) w (λ g. or_fail (look_up a env) w (λ v. ap1 p g v w))) (ev_op (out.call p (op.one_of n (var f)) (var a ∷ [])) ρ u)
      dispatch-op n f a s env ρ w u within is_f is_a known lf vf la va same =
          arms.with-value C all sound s env ρ f w _ known lf vf (λ g g' g_is same_g isin_g. arms.with-value C all sound s env ρ a w _ known la va (λ v v' v_is same_v isin_v.
          subst (λ o. Q to (ap1 p g v w) (or_fail o u (λ vs. or_fail (op.called TT (op.one_of n (var f)) ρ vs) u (λ f. ap2 p f.function f.arguments u)))) (sym (arms.one-there C all sound a ρ v_is))
          (subst (λ o. Q to (ap1 p g v w) (or_fail (op.of_closure (get_or (map (conv.set_of C.numbering) C.flow.sets) n []) o (v' ∷ [])) u (λ f. ap2 p f.function f.arguments u))) (sym g_is)
          (dispatched n within g v g' v' w u same_g (subst (λ ks. IsOneOf C.types g ks) is_f isin_g) same_v (subst (λ ks. IsOneOf C.types v ks) is_a isin_v) same))))

      set-same : (n : ℕ) (l : List ℕ) (f a : ℕ) (s : Scope) (env : Env) (ρ : cells.Env) (w : World V) (u : World cells.Value) → get_or C.flow.sets n [] ≡ l → fs ≡ l → at C.flow (variable f) ≡ fs → at C.flow (variable a) ≡ as_ → K s env ρ → IsLocal s f → IsValue C f → IsLocal s a → IsValue C a → W w u → Q to (or_fail (look_up f env) w (λ g. or_fail (look_up a env) w (λ v. ap1 p g v w))) (ev_op (conv.call_set C.numbering p n l (var f) (var a)) ρ u)
      set-same n [] f a s env ρ w u e is is_f is_a known lf vf la va same = dispatch-op n f a s env ρ w u (record { all = λ k i. subst (λ ks. is_in k ks ≡ true) (is ∙ sym e) i }) is_f is_a known lf vf la va same
      set-same n (k ∷ l ∷ ks) f a s env ρ w u e is is_f is_a known lf vf la va same = dispatch-op n f a s env ρ w u (record { all = λ k i. subst (λ ks. is_in k ks ≡ true) (is ∙ sym e) i }) is_f is_a known lf vf la va same
      set-same n (k ∷ []) f a s env ρ w u e is is_f is_a known lf vf la va same =
          arms.with-value C all sound s env ρ f w _ known lf vf (λ g g' g_is same_g isin_g. arms.with-value C all sound s env ρ a w _ known la va (λ v v' v_is same_v isin_v.
          subst (λ o. Q to (ap1 p g v w) (or_fail o u (λ vs. ap2 p (C.numbering.function k) vs u))) (sym (arms.two-there C all sound f a ρ g_is v_is))
          (directly k (record { all = λ j i. subst (λ ks. is_in j ks ≡ true) is i }) g v g' v' w u same_g (subst (λ ks. IsOneOf C.types g ks) is_f isin_g) same_v (subst (λ ks. IsOneOf C.types v ks) is_a isin_v) same)))

    -- Rows

    data Filled (g : ℕ) (ls : List _) (ts : List ℕ) : Option (Parts (mono C.types)) → Option (List cells.Value) → Type 0 where
      filled : {o : Option (Parts (mono C.types))} {o' : Option (List cells.Value)} (fs : Parts (mono C.types)) (us : List cells.Value) → o ≡ Some fs → o' ≡ Some us → SameFields C all g ls ts fs (cells.values_of us) → Filled g ls ts o o'

    fill : {g x t : ℕ} (l : _) {ls : List _} {ts : List ℕ} {o : Option V} {o' : Option cells.Value} {rest : Option (Parts (mono C.types))} {rest' : Option (List cells.Value)} → IsValue C x → Within (at C.flow (variable x)) (at C.flow (spots.field g l)) → Found C all x o o' → Filled g ls ts rest rest' → Filled g (l ∷ ls) (t ∷ ts) (src.field_in_front l o rest) (cells.first_some o' rest')
    fill {g} l {rest = rest} {rest' = rest'} i within (found v v' is is' st isin) (filled fs us e e' sf) =
        filled (Rattle.ir_values.specs.Values.field l v fs) (v' ∷ us) (ap (λ o. src.field_in_front l o rest) is ∙ ap (src.field_in_front l (Some v)) e) (ap (λ o. cells.first_some o rest') is' ∙ ap (cells.first_some (Some v')) e') (a_field_same l (arms.as-value C all sound i st) (widen C.types v within isin) sf)

    row-same : (g : ℕ) {row : Row (mono C.types)} {ls : List _} {ts : List ℕ} (s : Scope) (env : Env) (ρ : cells.Env) → RowFits C row ls ts → SolvesRow C.types C.flow g row → RowClosed C.types s row → K s env ρ → Filled g ls ts (src.look_row row env) (cells.gather (conv.row_pieces C.numbering C.types C.flow C.captures row) ρ)
    row-same g s env ρ no_row_fits v l known = filled Rattle.ir_values.specs.Values.no_fields [] refl refl no_fields_same
    row-same g s env ρ (a_row_fits {l = k} {a = a} i rest) v l known = fill k i v.0 (local-known C all s env ρ a known l.0) (row-same g s env ρ rest v.1 l.1 known)

    record-same : (g : ℕ) {ls : List _} {ts : List ℕ} {ks : List ℕ} {o : Option (Parts (mono C.types))} {o' : Option (List cells.Value)} (w : World V) (u : World cells.Value) → Is C.types g (Rattle.ty_core.specs.Types.labels ls) ts → AreDistinct ls → Filled g ls ts o o' → W w u → Q ks (or_fail o w (λ fs. gives (Rattle.ir_values.specs.Values.record_of g fs) w)) (or_fail o' u (λ vs. gives (cells.cell 0 (cells.values_of vs)) u))
    record-same g {ks = ks} {o = o} {o' = o'} w u is d (filled fs us e e' sf) s =
        subst (λ z. Q ks (or_fail z w (λ fs. gives (Rattle.ir_values.specs.Values.record_of g fs) w)) (or_fail o' u (λ vs. gives (cells.cell 0 (cells.values_of vs)) u))) (sym e)
        (subst (λ z. Q ks (gives (Rattle.ir_values.specs.Values.record_of g fs) w) (or_fail z u (λ vs. gives (cells.cell 0 (cells.values_of vs)) u))) (sym e') (both_give (record { same = same_record g is d sf; is = tt }) s))

    -- atoms of a primitive
    data Listed (as_ : Atoms (mono C.types)) : Option (List V) → Option (List cells.Value) → Type 0 where
      listed : {o : Option (List V)} {o' : Option (List cells.Value)} (vs : List V) (us : List cells.Value) → o ≡ Some vs → o' ≡ Some us → AtomsSame C all sound as_ vs us → Listed as_ o o'

    list-more : {a : ℕ} {as_ : Atoms (mono C.types)} {o : Option V} {o' : Option cells.Value} {rest : Option (List V)} {rest' : Option (List cells.Value)} → IsValue C a → Found C all a o o' → Listed as_ rest rest' → Listed (an_atom a as_) (src.in_front o rest) (cells.first_some o' rest')
    list-more {a} {rest = rest} {rest' = rest'} i (found v v' is is' st isin) (listed vs us e e' x) =
        listed (v ∷ vs) (v' ∷ us) (ap (λ o. src.in_front o rest) is ∙ ap (src.in_front (Some v)) e) (ap (λ o. cells.first_some o rest') is' ∙ ap (cells.first_some (Some v')) e') (more_same a (arms.as-value C all sound i st) isin x)

    atoms-same : (as_ : Atoms (mono C.types)) (s : Scope) (env : Env) (ρ : cells.Env) → AtomsFit C as_ → AtomsClosed C.types s as_ → K s env ρ → Listed as_ (src.look_all as_ env) (cells.look_all (conv.atom_list C.numbering C.types C.flow C.captures as_) ρ)
    atoms-same no_atoms s env ρ f l known = listed [] [] refl refl no_same
    atoms-same (an_atom a as_) s env ρ f l known = list-more f.0 (local-known C all s env ρ a known l.0) (atoms-same as_ s env ρ f.1 l.1 known)

    -- one part alone
    alone-is : (i : ℕ) (a : ℕ) (ρ : cells.Env) (u : World cells.Value) {v : cells.Value} → cells.look_up (var a) ρ ≡ Some v → gives (cells.cell i (cells.value v cells.no_values)) u ≡ ev_op (out.make i (cells.one (var a) ∷ [])) ρ u
    alone-is i a ρ u e = sym (ap (λ o. or_fail (cells.first_some o (Some [])) u (λ vs. gives (cells.cell i (cells.values_of vs)) u)) e)

    -- the head of an arm
    opened-arm : {ks : List ℕ} (go : Answer V V) (x a i : ℕ) (e : out.Exp) (ρ : cells.Env) (u : World cells.Value) (other : World cells.Value → cells.Run cells.Value) (b : cells.Value) → cells.look_up (var a) ρ ≡ Some (cells.cell i (cells.value b cells.no_values)) → Q ks go (ev e (cells.bind (var x) b ρ) u other) → Q ks go (ev (out.let_in (var x) (out.plain (op.field 0) (var a ∷ [])) e) ρ u other)
    opened-arm {ks} go x a i e ρ u other b is h = subst (λ r. Q ks go (then_do r (λ v z. ev e (cells.bind (var x) v ρ) z other))) (plain-is C all sound ap2 (op.field 0) (var a ∷ []) ρ u (arms.one-there C all sound a ρ is)) h

    opened-packet : {ks : List ℕ} (go : Answer V V) (x a i : ℕ) (e : out.Exp) (ρ : cells.Env) (u : World cells.Value) (other : World cells.Value → cells.Run cells.Value) (b : cells.Value) → cells.look_up (var a) ρ ≡ Some (cells.packet i b) → Q ks go (ev e (cells.bind (var x) b ρ) u other) → Q ks go (ev (out.let_in (var x) (out.plain op.argument (var a ∷ [])) e) ρ u other)
    opened-packet {ks} go x a i e ρ u other b is h = subst (λ r. Q ks go (then_do r (λ v z. ev e (cells.bind (var x) v ρ) z other))) (plain-is C all sound ap2 op.argument (var a ∷ []) ρ u (arms.one-there C all sound a ρ is)) h

    -- the name of an exception of the initial basis is there
    initial-is : (i : ℕ) (ρ : cells.Env) (u : World cells.Value) → IsInitial C i → gives (cells.name i) u ≡ ev_op (out.plain (op.initial i) []) ρ u
    initial-is i ρ u h = let f = slice-found C.initial i (ltb-true i (length C.initial) h) in sym (ap (λ o. or_fail o u (λ identifier. gives (cells.name i) u)) f.1)

    -- an operation, and what comes after it
    step : {ks : List ℕ} (x : ℕ) (e : out.Exp) (go : V → World V → Answer V V) (s : Scope) (env : Env) (ρ : cells.Env) (u : World cells.Value) (other' : World cells.Value → cells.Run cells.Value) → K s env ρ → (r : Answer V V) (o' : out.Op) → Q (at C.flow (variable x)) r (ev_op o' ρ u) →
        ((v : V) (v' : cells.Value) (w' : World V) (u' : World cells.Value) (ρ' : cells.Env) → S v v' → One v x → K s env ρ' → W w' u' → Q ks (go v w') (ev e (cells.bind (var x) v' ρ') u' other')) → Q ks (then_do r go) (ev (out.let_in (var x) o' e) ρ u other')
    step {ks} x e go s env ρ u other' known r o' h k = then_do-refines (R C all) (Given C all ks) (Given C all (at C.flow (variable x))) go (λ v z. ev e (cells.bind (var x) v ρ) z other') h (λ v v' w' u' g same. k v v' w' u' ρ g.same g.is known same)

    -- a name is brought into the body
    brought : {ks : List ℕ} (k : ℕ) (s : Scope) (env : Env) (ρ : cells.Env) (y : ℕ) (w : World V) (u : World cells.Value) (other' : World cells.Value → cells.Run cells.Value) (go : Option V → Answer V V) (e : out.Exp) → K s env ρ → reaches s y ≡ true → IsName C y → ((g i : ℕ) → Q ks (go (Some (exn g i))) (ev e (cells.bind k (cells.name i) ρ) u other')) → Q ks (go (look_up y env)) (ev (out.let_in k (access C.numbering s y) e) ρ u other')
    brought {ks} k s env ρ y w u other' go e known l i h = pick (known y l)
      where
        end : {v : V} {v' : cells.Value} → arms.Named C all sound v v' → Q ks (go (Some v)) (ev e (cells.bind k v' ρ) u other')
        end (arms.named g i) = h g i

        pick : {o : Option V} → Found C all y o (Rattle.closure_meaning.proofs.Known.accessed C.numbering s y ρ) → Q ks (go o) (ev (out.let_in k (access C.numbering s y) e) ρ u other')
        pick (found v v' is is' st isin) =
            subst (λ o. Q ks (go o) (ev (out.let_in k (access C.numbering s y) e) ρ u other')) (sym is)
            (subst (λ a. Q ks (go (Some v)) (then_do a (λ x z. ev e (cells.bind k x ρ) z other'))) (sym (access-is C.numbering TT ap2 s y ρ u ∙ ap (λ o. or_fail o u (λ x. gives x u)) is')) (end (arms.as-name C all sound i st)))

    used-value : (s : Scope) (env : Env) (ρ : cells.Env) (y : ℕ) {ks : List ℕ} (w : World V) (u : World cells.Value) → K s env ρ → reaches s y ≡ true → IsValue C y → Within (at C.flow (variable y)) ks → W w u → Q ks (or_fail (look_up y env) w (λ v. gives v w)) (ev_op (access C.numbering s y) ρ u)
    used-value s env ρ y {ks} w u known l i within same = pick (known y l)
      where
        pick : {o : Option V} → Found C all y o (Rattle.closure_meaning.proofs.Known.accessed C.numbering s y ρ) → Q ks (or_fail o w (λ v. gives v w)) (ev_op (access C.numbering s y) ρ u)
        pick (found v v' is is' st isin) =
            subst (λ o. Q ks (or_fail o w (λ v. gives v w)) (ev_op (access C.numbering s y) ρ u)) (sym is)
            (subst (λ a. Q ks (gives v w) a) (sym (access-is C.numbering TT ap2 s y ρ u ∙ ap (λ o. or_fail o u (λ x. gives x u)) is')) (both_give (record { same = arms.as-value C all sound i st; is = widen C.types v within isin }) same))

    -- the steps between are no variables of the program
    past-given : (s : Scope) (env : Env) (ρ : cells.Env) (u : cells.Value) → K s env ρ → K s env (cells.bind given u ρ)
    past-given s env ρ u known = known-between C all s env ρ given u refl (λ z. different (var z) given (λ h. omega (arith, h))) known

    past-spare : (s : Scope) (env : Env) (ρ : cells.Env) (u : cells.Value) → K s env ρ → K s env (cells.bind spare u ρ)
    past-spare s env ρ u known = known-between C all s env ρ spare u refl (λ z. different (var z) spare (λ h. omega (arith, h))) known

    abbrev Then : List ℕ → (x : ℕ) → (V → World V → Answer V V) → out.Exp → Scope → Env → (World cells.Value → cells.Run cells.Value) → Type 0
    Then to x go e s env other' = (v : V) (v' : cells.Value) (w' : World V) (u' : World cells.Value) (ρ' : cells.Env) → S v v' → One v x → K s env ρ' → W w' u' → Q to (go v w') (ev e (cells.bind (var x) v' ρ') u' other')

    used-same : (b : Bool) (to : List ℕ) (x y : ℕ) (e : out.Exp) (go : V → World V → Answer V V) (s : Scope) (env : Env) (ρ : cells.Env) (w : World V) (u : World cells.Value) (other' : World cells.Value → cells.Run cells.Value) → C.numbering.is_name y ≡ b → Within (at C.flow (variable y)) (at C.flow (variable x)) → reaches s y ≡ true → K s env ρ → W w u → Then to x go e s env other' → Q to (then_do (or_fail (look_up y env) w (λ v. gives v w)) go) (ev (conv.used C.numbering b s (var x) y e) ρ u other')
    used-same false to x y e go s env ρ w u other' i v l known same k = step x e go s env ρ u other' known (or_fail (look_up y env) w (λ v. gives v w)) (access C.numbering s y) (used-value s env ρ y w u known l i v same) k
    used-same true to x y e go s env ρ w u other' i v l known same k =
        brought given s env ρ y w u other' (λ o. then_do (or_fail o w (λ v. gives v w)) go) (conv.packed (var x) e) known l i (λ g j.
        k (exn g j) (cells.packet j cells.unit) w u (cells.bind spare (cells.cell 0 cells.no_values) (cells.bind given (cells.name j) ρ)) (same_exn g j) tt (past-spare s env (cells.bind given (cells.name j) ρ) (cells.cell 0 cells.no_values) (past-given s env ρ (cells.name j) known)) same)

    -- an operation that takes a turn, where it has a place
    marked-op : (m : Option Place) {to : List ℕ} (x : ℕ) (e : out.Exp) (go : V → World V → Answer V V) (s : Scope) (env : Env) (ρ : cells.Env) (w : World V) (u : World cells.Value) (other' : World cells.Value → cells.Run cells.Value) (f : World V → Answer V V) (o' : out.Op) → K s env ρ → W w u → ((w' : World V) (u' : World cells.Value) → W w' u' → Q (at C.flow (variable x)) (f w') (ev_op o' ρ u')) → Then to x go e s env other' → Q to (then_do (prims.marked m w f) go) (ev (conv.marked m (out.let_in (var x) o' e)) ρ u other')
    marked-op m x e go s env ρ w u other' f o' known same h k = marked-same C all sound ap2 m w u f go (out.let_in (var x) o' e) ρ other' same (λ w' u' same'. step x e go s env ρ u' other' known (f w') o' (h w' u' same') k)

    mutual
      pub eval-same : (e : Mono C.types) (to : List ℕ) (s : Scope) (env : Env) (ρ : cells.Env) (w : World V) (u : World cells.Value) (other : World V → Answer V V) (other' : World cells.Value → cells.Run cells.Value) → Solves C.types C.flow to e → Coded C all e → IsClosed C.types C.captures s e → Fits C e → K s env ρ → W w u →
          ((w' : World V) (u' : World cells.Value) → W w' u' → Q to (other w') (other' u')) → Q to (src.eval ap1 e env w other) (ev (cv s e) ρ u other')
      eval-same (m.ret a) to s env ρ w u other other' v c l i known same h = arms.with-value C all sound s env ρ a w _ known l i (λ d d' is rd isin. subst (λ o. Q to (gives d w) (or_fail o u (λ x. gives x u))) (sym is) (both_give (record { same = rd; is = widen C.types d v isin }) same))
      eval-same (m.let_in x ps t o e) to s env ρ w u other other' v c l i known same h =
          op-same o to x (cv (add x s) e) (λ d z. src.eval ap1 e (bind x d env) z other) s env ρ w u other' v.0 c.0 l.0 i.1.0 known same
          (λ d d' w' u' ρ' rd isin known' same'. eval-same e to (add x s) (bind x d env) (cells.bind (var x) d' ρ') w' u' other other' v.1 c.1 l.1 i.1.1 (known-bind C all s env ρ' x d d' known' (stands C all x i.0 rd) isin) same' h)
      eval-same (m.exception_in x identifier t e) to s env ρ w u other other' v c l i known same h =
          new_exception-refines (R C all) (Given C all to) identifier w u (λ n z. src.eval ap1 e (bind x (exn (src.argument_tag (mono C.types) t) n) env) z other) (λ n z. ev (cv (add x s) e) (cells.bind (var x) (cells.name n) ρ) z other') same (λ n w' u' same'.
          eval-same e to (add x s) (bind x (exn (src.argument_tag (mono C.types) t) n) env) (cells.bind (var x) (cells.name n) ρ) w' u' other other' v c l i.1 (known-bind C all s env ρ x (exn (src.argument_tag (mono C.types) t) n) (cells.name n) known (arms.name-stands C all sound x (src.argument_tag (mono C.types) t) n i.0) tt) same' h)
      eval-same (m.name_in x (fixed n) e) to s env ρ w u other other' v c l i known same h =
          subst (λ r. Q to (src.eval ap1 e (bind x (exn unit_number n) env) w other) (then_do r (λ d z. ev (cv (add x s) e) (cells.bind (var x) d ρ) z other'))) (initial-is n ρ u i.1.0)
          (eval-same e to (add x s) (bind x (exn unit_number n) env) (cells.bind (var x) (cells.name n) ρ) w u other other' v c l.1 i.1.1 (known-bind C all s env ρ x (exn unit_number n) (cells.name n) known (arms.name-stands C all sound x unit_number n i.0) tt) same h)
      eval-same (m.name_in x (held y) e) to s env ρ w u other other' v c l i known same h =
          brought (var x) s env ρ y w u other' (λ o. src.on_name o w (λ d. src.eval ap1 e (bind x d env) w other)) (cv (add x s) e) known l.0 i.1.0 (λ g n.
          eval-same e to (add x s) (bind x (exn g n) env) (cells.bind (var x) (cells.name n) ρ) w u other other' v c l.1 i.1.1 (known-bind C all s env ρ x (exn g n) (cells.name n) known (arms.name-stands C all sound x g n i.0) tt) same h)
      eval-same (m.rec_in ps no_funs e) to s env ρ w u other other' v c l i known same h = eval-same e to s env ρ w u other other' v.1 c.1 l.1.1 i.1 known same h
      eval-same (m.rec_in ps (fun x t f rest) e) to s env ρ w u other other' v c l i known same h =
          group-by C all TT ap2 (Given C all to) (src.eval ap1 e (src.members (fun x t f rest) env) w other) u other' x t f rest s env ρ (cv (add_all (names (members C.types (fun x t f rest))) s) e)
          (all-good (fun x t f rest) v.0 c.0 l.1.0 i.0) l.0.0 l.0.1 known
          (λ ρ' known'. eval-same e to (add_all (names (members C.types (fun x t f rest))) s) (src.members (fun x t f rest) env) ρ' w u other other' v.1 c.1 l.1.1 i.1 known' same h)
        where
          all-good : (fs : Funs (mono C.types)) → SolvesFuns C.types C.flow fs → CodedFuns C all true (leader C.types fs) fs fs → FunsClosed C.types C.captures (leader C.types fs) (members C.types fs) fs → FunsFit C fs → AllGood C all true (leader C.types fs) fs fs
          all-good fs v c l i = arms.all-good C all sound true (leader C.types fs) fs fs v c l i (λ q. refl)
      eval-same (m.switch a t as_) to s env ρ w u other other' v c l i known same h =
          arms.with-value C all sound s env ρ a w _ known l.0 i.0 (λ d d' is rd isin. arms-same as_ t a to d d' s env ρ w u other other' v c l.0 l.1 i.1 known same is rd h)
      eval-same (m.first e d) to s env ρ w u other other' v c l i known same h =
          eval-same e to s env ρ w u (λ z. src.eval ap1 d env z other) (λ z. ev (cv s d) ρ z other') v.0 c.0 l.0 i.0 known same (λ w' u' same'. eval-same d to s env ρ w' u' other other' v.1 c.1 l.1 i.1 known same' h)
      eval-same m.miss to s env ρ w u other other' v c l i known same h = h w u same
      eval-same (m.counted k e) to s env ρ w u other other' v c l i known same h = eval-same e to s env ρ w u other other' v c l i known same h

      -- arms one by one, where d is what is switched on
      arms-same : (as_ : m.Arms (mono C.types)) (t a : ℕ) (to : List ℕ) (d : V) (d' : cells.Value) (s : Scope) (env : Env) (ρ : cells.Env) (w : World V) (u : World cells.Value) (other : World V → Answer V V) (other' : World cells.Value → cells.Run cells.Value) → SolvesArms C.types C.flow to t as_ → CodedArms C all as_ → IsLocal s a → ArmsClosed C.types C.captures s as_ → ArmsFit C as_ → K s env ρ → W w u → cells.look_up (var a) ρ ≡ Some d' → S d d' →
          ((w' : World V) (u' : World cells.Value) → W w' u' → Q to (other w') (other' u')) → Q to (src.eval_arms ap1 t as_ d env w other) (ev (conv.cases C.numbering C.types C.flow C.captures s a t as_) ρ u other')
      arms-same m.no_arms t a to d d' s env ρ w u other other' v c la l i known same is rd h = h w u same
      arms-same (m.arm (is_literal k) e as_) t a to d d' s env ρ w u other other' v c la l i known same is rd h =
          subst (λ o. Q to (src.eval_arms ap1 t (m.arm (is_literal k) e as_) d env w other) (or_fail o u (λ vs. or_fail (op.decide TT (op.is (conv.constant C.numbering k)) vs) u (λ b. if b then ev (cv s e) ρ u other' else ev (conv.cases C.numbering C.types C.flow C.captures s a t as_) ρ u other')))) (sym (arms.one-there C all sound a ρ is))
          (arms.literal-arm C all sound k env w u (λ env' w. src.eval ap1 e env' w other) (λ w. src.eval_arms ap1 t as_ d env w other) i.0 rd (eval-same e to s env ρ w u other other' v.1.0 c.0 l.1.0 i.1.0 known same h) (arms-same as_ t a to d d' s env ρ w u other other' v.1.1 c.1 la l.1.1 i.1.1 known same is rd h))
      arms-same (m.arm (is_exn y) e as_) t a to d d' s env ρ w u other other' v c la l i known same is rd h =
          arms.with-name C all sound s env ρ y (λ o. after_match (against_exn o d (matches env)) w (λ env' w. src.eval ap1 e env' w other) (λ w. src.eval_arms ap1 t as_ d env w other)) known l.0 i.0 (λ g n n_is.
          subst (λ o. Q to (after_match (against_exn (Some (exn g n)) d (matches env)) w (λ env' w. src.eval ap1 e env' w other) (λ w. src.eval_arms ap1 t as_ d env w other)) (or_fail o u (λ vs. or_fail (op.decide TT op.is_of vs) u (λ b. if b then ev (cv s e) ρ u other' else ev (conv.cases C.numbering C.types C.flow C.captures s a t as_) ρ u other')))) (sym (arms.two-there C all sound a y ρ is n_is))
          (arms.exn-arm C all sound g n env w u (λ env' w. src.eval ap1 e env' w other) (λ w. src.eval_arms ap1 t as_ d env w other) rd (eval-same e to s env ρ w u other other' v.1.0 c.0 l.1.0 i.1.0 known same h) (arms-same as_ t a to d d' s env ρ w u other other' v.1.1 c.1 la l.1.1 i.1.1 known same is rd h)))
      arms-same (m.arm (is_exn_of y x k) e as_) t a to d d' s env ρ w u other other' v c la l i known same is rd h =
          arms.with-name C all sound s env ρ y (λ o. after_match (under_exn (by_number C.types) k o d (λ z. matches (bind x z env))) w (λ env' w. src.eval ap1 e env' w other) (λ w. src.eval_arms ap1 t as_ d env w other)) known l.0 i.0.0 (λ g n n_is.
          subst (λ o. Q to (after_match (under_exn (by_number C.types) k (Some (exn g n)) d (λ z. matches (bind x z env))) w (λ env' w. src.eval ap1 e env' w other) (λ w. src.eval_arms ap1 t as_ d env w other)) (or_fail o u (λ vs. or_fail (op.decide TT op.is_of vs) u (λ b. if b then ev (out.let_in (var x) (out.plain op.argument (var a ∷ [])) (cv (add x s) e)) ρ u other' else ev (conv.cases C.numbering C.types C.flow C.captures s a t as_) ρ u other')))) (sym (arms.two-there C all sound a y ρ is n_is))
          (arms.packet-arm C all sound k g n x env w u (λ env' w. src.eval ap1 e env' w other) (λ w. src.eval_arms ap1 t as_ d env w other) rd
          (λ b b' j q rb isin_b. opened-packet (src.eval ap1 e (bind x b env) w other) x a j (cv (add x s) e) ρ u other' b' (is ∙ ap Some q)
          (eval-same e to (add x s) (bind x b env) (cells.bind (var x) b' ρ) w u other other' v.1.0 c.0 l.1.0 i.1.0 (known-bind C all s env ρ x b b' known (stands C all x i.0.1 rb) (widen C.types b v.0 isin_b)) same h))
          (arms-same as_ t a to d d' s env ρ w u other other' v.1.1 c.1 la l.1.1 i.1.1 known same is rd h)))
      arms-same (m.arm (is_record size) e as_) t a to d d' s env ρ w u other other' v c la l i known same is rd h =
          arms.record-arm C all sound t size env w (λ env' w. src.eval ap1 e env' w other) (λ w. src.eval_arms ap1 t as_ d env w other) rd (eval-same e to s env ρ w u other other' v.1.0 c.0 l.1.0 i.1.0 known same h)
      arms-same (m.arm (is_con k) e as_) t a to d d' s env ρ w u other other' v c la l i known same is rd h = pick (arms.view C all sound rd) is
          (λ hh n us cn is2. arms.alone-arm C all sound t k env w (λ env' w. src.eval ap1 e env' w other) (λ w. src.eval_arms ap1 t as_ d env w other) cn (eval-same e to s env ρ w u other other' v.1.0 c.0 l.1.0 i.1.0 known same h) (con-arms-same as_ t a hh n to d us s env ρ w u other other' v.1.1 c.1 l.1.1 i.1.1 known same is2 cn h))
        where
          pick : {z : cells.Value} → arms.View C all sound d z → cells.look_up (var a) ρ ≡ Some z
              → ((hh n : ℕ) (us : cells.Values) → arms.IsCon C all sound hh n d us → cells.look_up (var a) ρ ≡ Some (cells.cell (con_tag C.types hh n) us) → Q to (after_match (against_con (by_number C.types) t k d (matches env)) w (λ env' w. src.eval ap1 e env' w other) (λ w. src.eval_arms ap1 t as_ d env w other)) (if nat_eq (con_tag C.types hh n) (con_tag C.types t k) then ev (cv s e) ρ u other' else tgt.eval_arm TT ap2 (con_tag C.types hh n) (conv.con_arms C.numbering C.types C.flow C.captures s a t as_) ρ u other'))
              → Q to (src.eval_arms ap1 t (m.arm (is_con k) e as_) d env w other) (ev (conv.cases C.numbering C.types C.flow C.captures s a t (m.arm (is_con k) e as_)) ρ u other')
          pick (arms.view_con {h = hh} {d = n} {us = us} cn) is2 x = subst (λ o. Q to (src.eval_arms ap1 t (m.arm (is_con k) e as_) d env w other) (or_fail (cells.tag_of o) u (λ z. tgt.eval_arm TT ap2 z (conv.con_arms C.numbering C.types C.flow C.captures s a t (m.arm (is_con k) e as_)) ρ u other'))) (sym is2) (x hh n us cn is2)
          pick (arms.view_other z n) is2 x = subst (λ q. Q to (after_match q w (λ env' w. src.eval ap1 e env' w other) (λ w. src.eval_arms ap1 t as_ d env w other)) (ev (conv.cases C.numbering C.types C.flow C.captures s a t (m.arm (is_con k) e as_)) ρ u other')) (sym (n.against t k (matches env))) (first_wrong _)
      arms-same (m.arm (is_con_of k x b) e as_) t a to d d' s env ρ w u other other' v c la l i known same is rd h = pick (arms.view C all sound rd) is
          (λ hh n us cn is2. arms.with-arm C all sound t k x env w (λ env' w. src.eval ap1 e env' w other) (λ w. src.eval_arms ap1 t as_ d env w other) cn
          (λ y y' q ry isin_y. opened-arm (src.eval ap1 e (bind x y env) w other) x a (con_tag C.types hh n) (cv (add x s) e) ρ u other' y' (is2 ∙ ap (λ z. Some (cells.cell (con_tag C.types hh n) z)) q)
          (eval-same e to (add x s) (bind x y env) (cells.bind (var x) y' ρ) w u other other' v.1.0 c.0 l.1.0 i.1.0 (known-bind C all s env ρ x y y' known (stands C all x i.0 ry) (widen C.types y v.0 isin_y)) same h))
          (con-arms-same as_ t a hh n to d us s env ρ w u other other' v.1.1 c.1 l.1.1 i.1.1 known same is2 cn h))
        where
          pick : {z : cells.Value} → arms.View C all sound d z → cells.look_up (var a) ρ ≡ Some z
              → ((hh n : ℕ) (us : cells.Values) → arms.IsCon C all sound hh n d us → cells.look_up (var a) ρ ≡ Some (cells.cell (con_tag C.types hh n) us) → Q to (after_match (under_con (by_number C.types) t k d (λ z. matches (bind x z env))) w (λ env' w. src.eval ap1 e env' w other) (λ w. src.eval_arms ap1 t as_ d env w other)) (if nat_eq (con_tag C.types hh n) (con_tag C.types t k) then ev (out.let_in (var x) (out.plain (op.field 0) (var a ∷ [])) (cv (add x s) e)) ρ u other' else tgt.eval_arm TT ap2 (con_tag C.types hh n) (conv.con_arms C.numbering C.types C.flow C.captures s a t as_) ρ u other'))
              → Q to (src.eval_arms ap1 t (m.arm (is_con_of k x b) e as_) d env w other) (ev (conv.cases C.numbering C.types C.flow C.captures s a t (m.arm (is_con_of k x b) e as_)) ρ u other')
          pick (arms.view_con {h = hh} {d = n} {us = us} cn) is2 f = subst (λ o. Q to (src.eval_arms ap1 t (m.arm (is_con_of k x b) e as_) d env w other) (or_fail (cells.tag_of o) u (λ z. tgt.eval_arm TT ap2 z (conv.con_arms C.numbering C.types C.flow C.captures s a t (m.arm (is_con_of k x b) e as_)) ρ u other'))) (sym is2) (f hh n us cn is2)
          pick (arms.view_other z n) is2 f = subst (λ q. Q to (after_match q w (λ env' w. src.eval ap1 e env' w other) (λ w. src.eval_arms ap1 t as_ d env w other)) (ev (conv.cases C.numbering C.types C.flow C.captures s a t (m.arm (is_con_of k x b) e as_)) ρ u other')) (sym (n.under t k (λ z. matches (bind x z env)))) (first_wrong _)

      -- arms with constructors, where d is a construction; at an arm of another kind it goes wrong
      con-arms-same : (as_ : m.Arms (mono C.types)) (t a hh n : ℕ) (to : List ℕ) (d : V) (us : cells.Values) (s : Scope) (env : Env) (ρ : cells.Env) (w : World V) (u : World cells.Value) (other : World V → Answer V V) (other' : World cells.Value → cells.Run cells.Value) → SolvesArms C.types C.flow to t as_ → CodedArms C all as_ → ArmsClosed C.types C.captures s as_ → ArmsFit C as_ → K s env ρ → W w u → cells.look_up (var a) ρ ≡ Some (cells.cell (con_tag C.types hh n) us) → arms.IsCon C all sound hh n d us →
          ((w' : World V) (u' : World cells.Value) → W w' u' → Q to (other w') (other' u')) → Q to (src.eval_arms ap1 t as_ d env w other) (tgt.eval_arm TT ap2 (con_tag C.types hh n) (conv.con_arms C.numbering C.types C.flow C.captures s a t as_) ρ u other')
      con-arms-same m.no_arms t a hh n to d us s env ρ w u other other' v c l i known same is cn h = h w u same
      con-arms-same (m.arm (is_con k) e as_) t a hh n to d us s env ρ w u other other' v c l i known same is cn h =
          arms.alone-arm C all sound t k env w (λ env' w. src.eval ap1 e env' w other) (λ w. src.eval_arms ap1 t as_ d env w other) cn (eval-same e to s env ρ w u other other' v.1.0 c.0 l.1.0 i.1.0 known same h) (con-arms-same as_ t a hh n to d us s env ρ w u other other' v.1.1 c.1 l.1.1 i.1.1 known same is cn h)
      con-arms-same (m.arm (is_con_of k x b) e as_) t a hh n to d us s env ρ w u other other' v c l i known same is cn h =
          arms.with-arm C all sound t k x env w (λ env' w. src.eval ap1 e env' w other) (λ w. src.eval_arms ap1 t as_ d env w other) cn
          (λ y y' q ry isin_y. opened-arm (src.eval ap1 e (bind x y env) w other) x a (con_tag C.types hh n) (cv (add x s) e) ρ u other' y' (is ∙ ap (λ z. Some (cells.cell (con_tag C.types hh n) z)) q)
          (eval-same e to (add x s) (bind x y env) (cells.bind (var x) y' ρ) w u other other' v.1.0 c.0 l.1.0 i.1.0 (known-bind C all s env ρ x y y' known (stands C all x i.0 ry) (widen C.types y v.0 isin_y)) same h))
          (con-arms-same as_ t a hh n to d us s env ρ w u other other' v.1.1 c.1 l.1.1 i.1.1 known same is cn h)
      con-arms-same (m.arm (is_literal k) e as_) t a hh n to d us s env ρ w u other other' v c l i known same is (arms.alone_is _ _ q) h = first_wrong _
      con-arms-same (m.arm (is_literal k) e as_) t a hh n to d us s env ρ w u other other' v c l i known same is (arms.with_is _ _ q x j) h = first_wrong _
      con-arms-same (m.arm (is_exn y) e as_) t a hh n to d us s env ρ w u other other' v c l i known same is (arms.alone_is _ _ q) h =
          arms.with-name C all sound s env ρ y (λ o. after_match (against_exn o (con hh n) (matches env)) w (λ env' w. src.eval ap1 e env' w other) (λ w. src.eval_arms ap1 t as_ (con hh n) env w other)) known l.0 i.0 (λ g n n_is. first_wrong _)
      con-arms-same (m.arm (is_exn y) e as_) t a hh n to d us s env ρ w u other other' v c l i known same is (arms.with_is _ _ {v = b} q x j) h =
          arms.with-name C all sound s env ρ y (λ o. after_match (against_exn o (con_of hh n b) (matches env)) w (λ env' w. src.eval ap1 e env' w other) (λ w. src.eval_arms ap1 t as_ (con_of hh n b) env w other)) known l.0 i.0 (λ g n n_is. first_wrong _)
      con-arms-same (m.arm (is_exn_of y z k) e as_) t a hh n to d us s env ρ w u other other' v c l i known same is (arms.alone_is _ _ q) h =
          arms.with-name C all sound s env ρ y (λ o. after_match (under_exn (by_number C.types) k o (con hh n) (λ b. matches (bind z b env))) w (λ env' w. src.eval ap1 e env' w other) (λ w. src.eval_arms ap1 t as_ (con hh n) env w other)) known l.0 i.0.0 (λ g n n_is. first_wrong _)
      con-arms-same (m.arm (is_exn_of y z k) e as_) t a hh n to d us s env ρ w u other other' v c l i known same is (arms.with_is _ _ {v = b} q x j) h =
          arms.with-name C all sound s env ρ y (λ o. after_match (under_exn (by_number C.types) k o (con_of hh n b) (λ b. matches (bind z b env))) w (λ env' w. src.eval ap1 e env' w other) (λ w. src.eval_arms ap1 t as_ (con_of hh n b) env w other)) known l.0 i.0.0 (λ g n n_is. first_wrong _)
      con-arms-same (m.arm (is_record size) e as_) t a hh n to d us s env ρ w u other other' v c l i known same is (arms.alone_is _ _ q) h = first_wrong _
      con-arms-same (m.arm (is_record size) e as_) t a hh n to d us s env ρ w u other other' v c l i known same is (arms.with_is _ _ q x j) h = first_wrong _

      op-same : (o : m.Op (mono C.types)) (to : List ℕ) (x : ℕ) (e : out.Exp) (go : V → World V → Answer V V) (s : Scope) (env : Env) (ρ : cells.Env) (w : World V) (u : World cells.Value) (other' : World cells.Value → cells.Run cells.Value) → SolvesOp C.types C.flow (at C.flow (variable x)) o → CodedOp C all o → OpClosed C.types C.captures s o → OpFits C o → K s env ρ → W w u →
          Then to x go e s env other' → Q to (then_do (src.eval_op ap1 o env w) go) (ev (conv.convert_op C.numbering C.types C.flow C.captures s x o e) ρ u other')
      op-same (m.use_of y) to x e go s env ρ w u other' v c l i known same k = used-same (C.numbering.is_name y) to x y e go s env ρ w u other' refl v l known same k
      op-same (m.const b) to x e go s env ρ w u other' v c l i known same k = step x e go s env ρ u other' known (src.eval_op ap1 (m.const b) env w) (out.plain (op.constant (conv.constant C.numbering b)) [])
          (subst (λ o. Q (at C.flow (variable x)) (gives (value_of (by_number C.types) b) w) (or_fail o u (λ z. gives (cells.value_of z) u))) (sym i) (both_give (record { same = literal-same C all sound b; is = literal-one C all sound b (at C.flow (variable x)) }) same)) k
      op-same (m.con_alone b t) to x e go s env ρ w u other' v c l i known same k = step x e go s env ρ u other' known (src.eval_op ap1 (m.con_alone b t) env w) (out.make (con_tag C.types t b) []) (both_give (record { same = same_con t b i; is = tt }) same) k
      op-same (m.construct p b t a) to x e go s env ρ w u other' v c l i known same k =
          arms.value-in C all sound s env ρ a (λ o. then_do (or_fail o w (λ d. prims.marked p w (gives (con_of t b d)))) go) known l i.1 (λ d d' is rd isin.
          marked-op p x e go s env ρ w u other' (gives (con_of t b d)) (out.make (con_tag C.types t b) (cells.one (var a) ∷ [])) known same (λ w' u' same'.
          subst (λ r. Q (at C.flow (variable x)) (gives (con_of t b d) w') r) (alone-is (con_tag C.types t b) a ρ u' is) (both_give (record { same = same_con_of t b i.0.is rd (widen C.types d v isin); is = tt }) same')) k)
      op-same (m.ref_alone t) to x e go s env ρ w u other' v c l i known same k = step x e go s env ρ u other' known (src.eval_op ap1 (m.ref_alone t) env w) conv.unit_cell (both_give (record { same = same_ref t (cells.cell 0 cells.no_values); is = tt }) same) k
      op-same (m.refer p t a) to x e go s env ρ w u other' v c l i known same k =
          arms.value-in C all sound s env ρ a (λ o. then_do (or_fail o w (λ d. prims.marked p w (prims.make_reference (by_number C.types) t d))) go) known l i (λ d d' is rd isin.
          marked-op p x e go s env ρ w u other' (prims.make_reference (by_number C.types) t d) (out.plain op.refer (var a ∷ [])) known same (λ w' u' same'.
          subst (λ r. Q (at C.flow (variable x)) (prims.make_reference (by_number C.types) t d w') r) (plain-is C all sound ap2 op.refer (var a ∷ []) ρ u' (arms.one-there C all sound a ρ is))
          (new_reference-refines (R C all) (Given C all (at C.flow (variable x))) (cell t d) d' w' u' (λ n. gives (Rattle.ir_values.specs.Values.address n)) (λ n z. gives (cells.reference n) z) (record { same = same_cell t rd (widen C.types d v isin); is = tt }) same' (λ n w2 u2 same2. both_give (record { same = same_address n; is = tt }) same2))) k)
      op-same (m.content t a) to x e go s env ρ w u other' v c l i known same k = step x e go s env ρ u other' known (src.eval_op ap1 (m.content t a) env w) (out.plain op.content (var a ∷ []))
          (one-operand op.content a s env ρ w u _ known l i (λ d d' rd isin. up v (read-same C all sound t w u rd same))) k
      op-same (m.pack p t y a) to x e go s env ρ w u other' v c l i known same k =
          arms.value-in C all sound s env ρ a (λ o. then_do (or_fail o w (λ d. or_fail (look_up y env) w (src.pack_value p t d w))) go) known l.1 i.1 (λ d d' is rd isin.
          arms.with-name C all sound s env ρ y (λ o. then_do (or_fail o w (src.pack_value p t d w)) go) known l.0 i.0 (λ g n n_is.
          marked-op p x e go s env ρ w u other' (gives (exn_of t n d)) (out.plain op.pack (var y ∷ var a ∷ [])) known same (λ w' u' same'.
          subst (λ r. Q (at C.flow (variable x)) (gives (exn_of t n d) w') r) (plain-is C all sound ap2 op.pack (var y ∷ var a ∷ []) ρ u' (arms.two-there C all sound y a ρ n_is is))
          (both_give (record { same = same_exn_of t n rd (widen C.types d v isin); is = tt }) same')) k))
      op-same (m.make_record t row) to x e go s env ρ w u other' v c l i known same k = step x e go s env ρ u other' known (src.eval_op ap1 (m.make_record t row) env w) (out.make 0 (conv.row_pieces C.numbering C.types C.flow C.captures row))
          (record-same t w u i.is i.distinct (row-same t s env ρ i.in_order v l known) same) k
      op-same (m.select t b a) to x e go s env ρ w u other' v c l i known same k = step x e go s env ρ u other' known (src.eval_op ap1 (m.select t b a) env w) (out.plain (op.field (conv.label_index b (conv.labels_in (Rattle.ir_explicit.specs.of_ir_mono.Types.node_at C.types t)))) (var a ∷ []))
          (one-operand (op.field (conv.label_index b (conv.labels_in (Rattle.ir_explicit.specs.of_ir_mono.Types.node_at C.types t)))) a s env ρ w u _ known l i (λ d d' rd isin. up v (select-same C all sound t b w u rd same))) k
      op-same (m.prim_alone p t) to x e go s env ρ w u other' v c l i known same k = step x e go s env ρ u other' known (src.eval_op ap1 (m.prim_alone p t) env w) conv.unit_cell (both_give (record { same = same_primitive t p (cells.cell 0 cells.no_values); is = tt }) same) k
      op-same (m.prim p b t as_) to x e go s env ρ w u other' v c l i known same k = pick (atoms-same as_ s env ρ i l known)
        where
          pick : {o : Option (List V)} → Listed as_ o (cells.look_all (conv.atom_list C.numbering C.types C.flow C.captures as_) ρ) → Q to (then_do (or_fail o w (λ vs. prims.marked p w (prims.perform (by_number C.types) t b vs))) go) (ev (conv.convert_op C.numbering C.types C.flow C.captures s x (m.prim p b t as_) e) ρ u other')
          pick (listed vs us e1 e2 atoms) = subst (λ o. Q to (then_do (or_fail o w (λ vs. prims.marked p w (prims.perform (by_number C.types) t b vs))) go) (ev (conv.convert_op C.numbering C.types C.flow C.captures s x (m.prim p b t as_) e) ρ u other')) (sym e1)
              (marked-op p x e go s env ρ w u other' (prims.perform (by_number C.types) t b vs) (conv.performed C.types (prims.sort_of b) b t (conv.atom_list C.numbering C.types C.flow C.captures as_)) known same (λ w' u' same'.
              perform-same C all sound ap2 b t (conv.atom_list C.numbering C.types C.flow C.captures as_) ρ w' u' e2 atoms v same') k)
      op-same (m.app p f a) to x e go s env ρ w u other' v c l i known same k = step x e go s env ρ u other' known (src.eval_op ap1 (m.app p f a) env w) (conv.call_set C.numbering p (C.flow.number (variable f)) (at C.flow (variable f)) (var f) (var a))
          (set-same p (at C.flow (variable f)) (at C.flow (variable a)) (at C.flow (variable x)) v (C.flow.number (variable f)) (at C.flow (variable f)) f a s env ρ w u refl refl refl refl known l.0 i.0 l.1 i.1 same) k
      op-same (m.fn f) to x e go s env ρ w u other' v c l i known same k =
          making-by C all TT ap2 (Given C all to) (go (closure (alone f) env) w) u other' s env ρ (var x) (number_of C.types f) e l.0 known (λ ρ' r known' same_c.
          k (closure (alone f) env) (cells.cell (C.numbering.tag (number_of C.types f)) r) w u ρ' (same_closure true (alone f) (number_of C.types f) (arms.good-of C all sound true (number_of C.types f) no_funs f v.1 c l.1 i (λ q. refl)) tt same_c) v.0 known' same)
      op-same (m.block b) to x e go s env ρ w u other' v c l i known same k = step x e go s env ρ u other' known (src.eval_op ap1 (m.block b) env w) (out.block (cv s b))
          (eval-same b (at C.flow (variable x)) s env ρ w u fail fail v c l i known same (λ w' u' same'. first_wrong _)) k
      op-same (m.handle b y h) to x e go s env ρ w u other' v c l i known same k = step x e go s env ρ u other' known (src.eval_op ap1 (m.handle b y h) env w) (out.handle (cv s b) (var y) (cv (add y s) h))
          (or_handle-refines (R C all) (Given C all (at C.flow (variable x))) _ _ (eval-same b (at C.flow (variable x)) s env ρ w u fail fail v.0 c.0 l.0 i.0 known same (λ w' u' same'. first_wrong _)) (λ p q w' u' rp same'.
          eval-same h (at C.flow (variable x)) (add y s) (bind y p env) (cells.bind (var y) q ρ) w' u' fail fail v.1 c.1 l.1 i.1.1 (known-bind C all s env ρ y p q known (stands C all y i.1.0 rp.same) (of-none C.types p (at C.flow (variable y)) rp.is)) same' (λ w2 u2 same2. first_wrong _))) k
      op-same (m.raise a) to x e go s env ρ w u other' v c l i known same k = step x e go s env ρ u other' known (src.eval_op ap1 (m.raise a) env w) (out.raise (var a))
          (arms.with-value C all sound s env ρ a w _ known l i (λ d d' is rd isin. subst (λ o. Q (at C.flow (variable x)) (prims.raise_value d w) (or_fail o u (λ p. op.raised_from p u (raises p u)))) (sym is) (raise-same C all sound w u rd same))) k
      op-same (m.raise_initial n) to x e go s env ρ w u other' v c l i known same k =
          subst (λ r. Q to (raises (exn unit_number n) w) (then_do r (λ d z. ev (conv.packed given (out.let_in (var x) (out.raise given) e)) (cells.bind given d ρ) z other'))) (initial-is n ρ u i) (both_raise (record { same = same_exn unit_number n; is = tt }) same)

    -- a body, with its argument
    pub body-same : (f : Fun (mono C.types)) (env : Env) (a : V) (ρ : cells.Env) (w : World V) (u : World cells.Value) → SolvesFun C.types C.flow f → CodedIn C all f → FunFits C f → (g : ℕ) (fs : Funs (mono C.types)) → FunClosed C.types C.captures g (members C.types fs) f → K (scope_of (C.captures.captured g) (members C.types fs) (number_of C.types f)) (bind (number_of C.types f) a env) ρ → W w u →
        Q (at C.flow (result (number_of C.types f))) (src.run_fun ap1 f env a w) (ev (conv.body C.numbering C.types C.flow C.captures (scope_of (C.captures.captured g) (members C.types fs) (number_of C.types f)) f) ρ u fail)
    body-same (last x t e) env a ρ w u v c i g fs l known same = eval-same e (at C.flow (result x)) (scope_of (C.captures.captured g) (members C.types fs) x) (bind x a env) ρ w u fail fail v c l i.1 known same (λ w' u' same'. first_wrong _)
    body-same (more x t f) env a ρ w u v c i g fs l known same =
        making-by C all TT ap2 (Given C all (at C.flow (result x))) (gives (closure (alone f) (bind x a env)) w) u fail (scope_of (C.captures.captured g) (members C.types fs) x) (bind x a env) ρ given (number_of C.types f) (out.ret given) l.0 known (λ ρ' r known' same_c.
        subst (λ o. Q (at C.flow (result x)) (gives (closure (alone f) (bind x a env)) w) (or_fail o u (λ v. gives v u))) (sym (here given (cells.cell (C.numbering.tag (number_of C.types f)) r) ρ'))
        (both_give (record { same = same_closure true (alone f) (number_of C.types f) (arms.good-of C all sound true (number_of C.types f) no_funs f v.1 c l.1 i.1 (λ q. refl)) tt same_c; is = v.0 }) same))
