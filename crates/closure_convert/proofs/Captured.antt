-- The table in the order of binding is right, where each function has its entry.
use Rattle.std.proofs.Common.{◌≡◌, ℕ, List, [], ◌∷◌, ◌++◌, Option, Some, None, Bool, true, false, ◌||◌, if◌then◌else◌, nat_eq, refl, sym, ap, subst, ◌∙◌}
use Rattle.std.specs.Prelude.{⊤}
use Rattle.flow_sets.specs.of_ir_plain.Kind.{Kind}
use Rattle.flow_sets.specs.of_ir_plain.Tree.{Case, Exception, fixed, held, Atoms, no_atoms, an_atom, Row, no_row, a_row, Exp, ret, let_in, exception_in, name_in, rec_in, switch, first, miss, counted, Arms, no_arms, arm, Op, use_of, const, con_alone, construct, ref_alone, refer, content, pack, make_record, select, prim_alone, prim, app, fn, block, handle, raise, raise_initial, Fun, last, more, Funs, no_funs, fun}
use Rattle.flow_sets.specs.of_ir_plain.Scoped as sc
use Rattle.flow_sets.specs.of_ir_plain.Scoped.{IsAmong, among_here, among_there, group_onto, AtomsScoped, no_atoms_scoped, an_atom_scoped, RowScoped, no_row_scoped, a_row_scoped, CaseScoped, literal_scoped, con_scoped, con_of_scoped, exn_scoped, exn_of_scoped, record_scoped}
use Rattle.flow_sets.specs.of_ir_plain.Unique as un
use Rattle.flow_sets.specs.of_ir_plain.Unique.{IsOutside, outside_none, outside_more, funs_onto, AreNew, none_new, one_new}
use Rattle.flow_sets.specs.of_ir_mono.Types as table
use Rattle.flow_sets.specs.of_ir_mono.Mono.{mono, Mono}
use Rattle.flow_sets.specs.Member.{is_in}
use Rattle.flow_sets.specs.Flow.{number_of}
use Rattle.flow_sets.proofs.Member.{nat_eq-to, nat_eq-same, or_left}
use Rattle.closure_convert.specs.Scope.{Member, names, Scope, add, add_all, way, is_way, reaches, Piece, Makes, Table}
use Rattle.closure_convert.specs.Closed.{scope_of, members, leader, case_scope, CaseClosed, AtomsClosed, RowClosed, NameClosed, IsMade, GroupMade, IsClosed, ArmsClosed, OpClosed, FunClosed, FunsClosed}
use Rattle.closure_convert.specs.Capture.{visible, cut, Entry, occurs_name, occurs, occurs_arms, occurs_op, occurs_fun, occurs_funs, wanted, wanted_all, tabulate, tabulate_arms, tabulate_op, tabulate_fun, tabulate_funs, entry_of, captured_in, pieces_in, table_in}
use Rattle.closure_convert.proofs.Cut.{or_right, way-is, visible-is, in-kept, kept-in, cut-makes}

-- What is reached

-- what is bound around and used is found
abbrev pub Reaching : Scope → List ℕ → (ℕ → Bool) → Type 0
Reaching s xs free = (y : ℕ) → is_in y xs ≡ true → free y ≡ true → reaches s y ≡ true

-- and in the body of a function, without its parameter
abbrev pub Inner : List ℕ → List Member → List ℕ → (ℕ → Bool) → Type 0
Inner xs ms cs free = (y : ℕ) → is_in y xs ≡ true → free y ≡ true → (is_way (way y ms) || is_in y cs) ≡ true

reach-add : (s : Scope) (x : ℕ) (xs : List ℕ) (free : ℕ → Bool) → Reaching s xs free → Reaching (add x s) (x ∷ xs) free
reach-add s x xs free h y i f = pick (nat_eq y x) i (λ k. h y k f)
  where
    pick : (b : Bool) → (b || is_in y xs) ≡ true → (is_in y xs ≡ true → (is_in y s.locals || (is_way (way y s.group) || is_in y s.captured)) ≡ true) → ((b || is_in y s.locals) || (is_way (way y s.group) || is_in y s.captured)) ≡ true
    pick true i k = refl
    pick false i k = k i

inner-body : (x : ℕ) (xs : List ℕ) (ms : List Member) (cs : List ℕ) (free : ℕ → Bool) → Inner xs ms cs free → Reaching (scope_of cs ms x) (x ∷ xs) free
inner-body x xs ms cs free h y i f = pick (nat_eq y x) i (λ k. h y k f)
  where
    pick : (b : Bool) → (b || is_in y xs) ≡ true → (is_in y xs ≡ true → (is_way (way y ms) || is_in y cs) ≡ true) → ((b || false) || (is_way (way y ms) || is_in y cs)) ≡ true
    pick true i k = refl
    pick false i k = k i

-- Entries

abbrev pub AllEntered : List Entry → List Entry → Type 0
AllEntered all [] = ⊤
AllEntered all (e ∷ es) = (entry_of e.number all ≡ Some e) × AllEntered all es

pub swapped : (x y : ℕ) → nat_eq y x ≡ false → nat_eq x y ≡ false
swapped x y h = go (nat_eq x y) refl
  where
    go : (b : Bool) → nat_eq x y ≡ b → b ≡ false
    go true e = absurd (let k : nat_eq y x ≡ true = subst (λ z. nat_eq y z ≡ true) (sym (nat_eq-to x y e)) (nat_eq-same y) in cc)
    go false e = refl

module _ (types : List table.Row) where
  abbrev K : Kind
  K = mono types

  among-in : (u : ℕ) {xs : List ℕ} → IsAmong K u xs → is_in u xs ≡ true
  among-in u (among_here {b = b} {xs = xs} e) = or_left (nat_eq u b) (is_in u xs) e
  among-in u (among_there {b = b} {xs = xs} h) = or_right (nat_eq u b) (is_in u xs) (among-in u h)

  reach-all : (fs : Funs K) (s : Scope) (xs : List ℕ) (free : ℕ → Bool) → Reaching s xs free → Reaching (add_all (names (members types fs)) s) (group_onto K fs xs) free
  reach-all no_funs s xs free h = h
  reach-all (fun x t f fs) s xs free h = reach-add (add_all (names (members types fs)) s) x (group_onto K fs xs) free (reach-all fs s xs free h)

  locals-all : (fs : Funs K) (s : Scope) → (add_all (names (members types fs)) s).locals ≡ group_onto K fs s.locals
  locals-all no_funs s = refl
  locals-all (fun x t f fs) s = ap (λ l. x ∷ l) (locals-all fs s)

  -- a function alone captures what it uses
  inner-alone : (s : Scope) (xs : List ℕ) (f : Fun K) → Reaching s xs (λ y. occurs_fun types y f) → Inner xs [] (wanted types s f) (λ y. occurs_fun types y f)
  inner-alone s xs f h y i o = in-kept (λ y. occurs_fun types y f) y (visible s) o (visible-is s y ∙ h y i o)

  in-group : (y : ℕ) (fs : Funs K) (xs : List ℕ) → is_in y (group_onto K fs xs) ≡ true → (is_in y (names (members types fs)) || is_in y xs) ≡ true
  in-group y no_funs xs h = h
  in-group y (fun x t f fs) xs h = pick (nat_eq y x) h (in-group y fs xs)
    where
      pick : (b : Bool) → (b || is_in y (group_onto K fs xs)) ≡ true → (is_in y (group_onto K fs xs) ≡ true → (is_in y (names (members types fs)) || is_in y xs) ≡ true) → ((b || is_in y (names (members types fs))) || is_in y xs) ≡ true
      pick true i k = refl
      pick false i k = k i

  inner-group : (s : Scope) (xs : List ℕ) (fs : Funs K) → Reaching s xs (λ y. occurs_funs types y fs) → Inner (group_onto K fs xs) (members types fs) (wanted_all types s fs) (λ y. occurs_funs types y fs)
  inner-group s xs fs h y i o = pick (is_in y (names (members types fs))) refl (in-group y fs xs i)
    where
      pick : (b : Bool) → is_in y (names (members types fs)) ≡ b → (b || is_in y xs) ≡ true → (is_way (way y (members types fs)) || is_in y (wanted_all types s fs)) ≡ true
      pick true e k = or_left (is_way (way y (members types fs))) (is_in y (wanted_all types s fs)) (way-is y (members types fs) ∙ e)
      pick false e k = or_right (is_way (way y (members types fs))) (is_in y (wanted_all types s fs)) (in-kept (λ y. occurs_funs types y fs) y (visible s) o (visible-is s y ∙ h y k o))

  made-alone : (s : Scope) (f : Fun K) → Makes s (cut s (wanted types s f)) (wanted types s f)
  made-alone s f = cut-makes s (wanted types s f) (λ y h. sym (visible-is s y) ∙ kept-in (λ y. occurs_fun types y f) y (visible s) h)

  made-group : (s : Scope) (fs : Funs K) → Makes s (cut s (wanted_all types s fs)) (wanted_all types s fs)
  made-group s fs = cut-makes s (wanted_all types s fs) (λ y h. sym (visible-is s y) ∙ kept-in (λ y. occurs_funs types y fs) y (visible s) h)

  atoms-closed : (s : Scope) {as_ : Atoms K} → AtomsScoped K s.locals as_ → AtomsClosed types s as_
  atoms-closed s no_atoms_scoped = tt
  atoms-closed s (an_atom_scoped {u = u} h hs) = (among-in u h, atoms-closed s hs)

  row-closed : (s : Scope) {row : Row K} → RowScoped K s.locals row → RowClosed types s row
  row-closed s no_row_scoped = tt
  row-closed s (a_row_scoped {u = u} h hs) = (among-in u h, row-closed s hs)

  case-closed : (s : Scope) (c : Case K) {ls : List ℕ} → CaseScoped K s.locals c ls → CaseClosed types s c × ((case_scope types c s).locals ≡ ls)
  case-closed s _ literal_scoped = (tt, refl)
  case-closed s _ con_scoped = (tt, refl)
  case-closed s _ con_of_scoped = (tt, refl)
  case-closed s _ (exn_scoped {u = u} h) = (among-in u h, refl)
  case-closed s _ (exn_of_scoped {u = u} h) = (among-in u h, refl)
  case-closed s _ record_scoped = (tt, refl)

  case-reaches : (s : Scope) (c : Case K) (xs : List ℕ) {ys : List ℕ} (free : ℕ → Bool) → CaseScoped K xs c ys → Reaching s xs free → Reaching (case_scope types c s) ys free
  case-reaches s _ xs free literal_scoped h = h
  case-reaches s _ xs free con_scoped h = h
  case-reaches s _ xs free (con_of_scoped {x = x}) h = reach-add s x xs free h
  case-reaches s _ xs free (exn_scoped k) h = h
  case-reaches s _ xs free (exn_of_scoped {x = x} k) h = reach-add s x xs free h
  case-reaches s _ xs free record_scoped h = h

  outside-names : (x : ℕ) (fs : Funs K) (bs : List ℕ) → IsOutside x (funs_onto (λ z. z) fs bs) → is_in x (names (members types fs)) ≡ false
  outside-names x no_funs bs h = refl
  outside-names x (fun y t f fs) bs (outside_more e h) = ap (λ b. b || is_in x (names (members types fs))) (swapped x y e) ∙ outside-names x fs bs h

  name-closed : (n : Exception K) (s : Scope) (xs : List ℕ) → sc.ReachesName K true n xs → Reaching s xs (λ y. occurs_name types y n) → NameClosed types s n
  name-closed (fixed n) s xs r h = tt
  name-closed (held x) s xs r h = h x (among-in x r) (nat_eq-same x)

  module _ (all : List Entry) where
    abbrev T : Table
    T = table_in all

    abbrev IsEntered : Fun K → List Piece → List ℕ → Type 0
    IsEntered f ps cs = (T.captured (number_of types f) ≡ cs) × (T.pieces (number_of types f) ≡ ps)

    entered : (f : Fun K) (ps : List Piece) (cs : List ℕ) (ms : List Member) (es : List Entry) → AllEntered all (tabulate_fun types ps cs ms f es) → IsEntered f ps cs
    entered (last x t e) ps cs ms es h = (ap captured_in h.0, ap pieces_in h.0)
    entered (more x t f) ps cs ms es h = (ap captured_in h.0, ap pieces_in h.0)

    made-by : (s : Scope) (f : Fun K) (ps : List Piece) (cs : List ℕ) → IsEntered f ps cs → Makes s ps cs → IsMade T s (number_of types f)
    made-by s f ps cs e h = subst (λ p. Makes s p (T.captured (number_of types f))) (sym e.1) (subst (λ c. Makes s ps c) (sym e.0) h)

    -- where there is a function at all
    abbrev Needs : Funs K → Type 0 → Type 0
    Needs no_funs P = ⊤
    Needs (fun x t f fs) P = P

    needs : {P : Type 0} (fs : Funs K) → P → Needs fs P
    needs no_funs p = tt
    needs (fun x t f fs) p = p

    group-made : (s : Scope) (fs : Funs K) (ps : List Piece) (cs bs : List ℕ) (es : List Entry) → AreNew (λ z. z) bs fs → Makes s ps cs → AllEntered all (tabulate_funs types ps cs (members types fs) fs es)
        → GroupMade T s (members types fs) × Needs fs (T.captured (leader types fs) ≡ cs)
    group-made s no_funs ps cs bs es n h a = (tt, tt)
    group-made s (fun x t f fs) ps cs bs es (one_new o n) h a =
        let e = entered f ps cs (members types (fun x t f fs)) (tabulate_funs types ps cs (members types (fun x t f fs)) fs es) a in ((made-by s f ps cs e h, outside-names x fs bs o), e.0)

    mutual
      pub closed : (e : Mono types) (s : Scope) (xs bs : List ℕ) (es : List Entry) → sc.IsScoped K true xs e → sc.IsScoped K false s.locals e → un.IsUnique (λ z. z) bs e → Reaching s xs (λ y. occurs types y e) → AllEntered all (tabulate types s e es)
          → AllEntered all es × IsClosed types T s e
      closed (ret a) s xs bs es b (sc.ret_scoped l) u h a_ = (a_, among-in a l)
      closed (let_in x ps t o e) s xs bs es (sc.let_scoped b c) (sc.let_scoped l m) (un.let_unique n u v) h a =
          let p = closed-op o s xs bs (tabulate types (add x s) e es) b l u (λ y i f. h y i (or_left (occurs_op types y o) (occurs types y e) f)) a in
          let q = closed e (add x s) (x ∷ xs) (x ∷ bs) es c m v (reach-add s x xs (λ y. occurs types y e) (λ y i f. h y i (or_right (occurs_op types y o) (occurs types y e) f))) p.0 in (q.0, (p.1, q.1))
      closed (exception_in x i t e) s xs bs es (sc.exception_scoped b) (sc.exception_scoped l) (un.exception_unique n u) h a = closed e (add x s) (x ∷ xs) (x ∷ bs) es b l u (reach-add s x xs (λ y. occurs types y e) h) a
      closed (name_in x n e) s xs bs es (sc.name_scoped r b) (sc.name_scoped q l) (un.name_unique o u) h a =
          let k = closed e (add x s) (x ∷ xs) (x ∷ bs) es b l u (reach-add s x xs (λ y. occurs types y e) (λ y i f. h y i (or_right (occurs_name types y n) (occurs types y e) f))) a in
          (k.0, (name-closed n s xs r (λ y i f. h y i (or_left (occurs_name types y n) (occurs types y e) f)), k.1))
      closed (rec_in ps fs e) s xs bs es (sc.rec_scoped b c) (sc.rec_scoped l m) (un.rec_unique n u v) h a =
          let rest = tabulate types (add_all (names (members types fs)) s) e es in
          let p = group-made s fs (cut s (wanted_all types s fs)) (wanted_all types s fs) bs rest n (made-group s fs) a in
          let q = closed-funs fs fs (cut s (wanted_all types s fs)) (wanted_all types s fs) (leader types fs) (group_onto K fs xs) (funs_onto (λ z. z) fs bs) rest b l u (λ y f. f) (inner-group s xs fs (λ y i f. h y i (or_left (occurs_funs types y fs) (occurs types y e) f))) p.1 a in
          let r = closed e (add_all (names (members types fs)) s) (group_onto K fs xs) (funs_onto (λ z. z) fs bs) es c (subst (λ ls. sc.IsScoped K false ls e) (sym (locals-all fs s)) m) v (reach-all fs s xs (λ y. occurs types y e) (λ y i f. h y i (or_right (occurs_funs types y fs) (occurs types y e) f))) q.0 in
          (r.0, (p.0, (q.1, r.1)))
      closed (switch d t arms) s xs bs es (sc.switch_scoped i b) (sc.switch_scoped j l) (un.switch_unique u) h a = let p = closed-arms arms s xs bs es b l u h a in (p.0, (among-in d j, p.1))
      closed (first e d) s xs bs es (sc.first_scoped b c) (sc.first_scoped l m) (un.first_unique u v) h a =
          let p = closed e s xs bs (tabulate types s d es) b l u (λ y i f. h y i (or_left (occurs types y e) (occurs types y d) f)) a in
          let q = closed d s xs bs es c m v (λ y i f. h y i (or_right (occurs types y e) (occurs types y d) f)) p.0 in (q.0, (p.1, q.1))
      closed miss s xs bs es b l u h a = (a, tt)
      closed (counted n e) s xs bs es (sc.counted_scoped b) (sc.counted_scoped l) (un.counted_unique u) h a = closed e s xs bs es b l u h a

      closed-arms : (arms : Arms K) (s : Scope) (xs bs : List ℕ) (es : List Entry) → sc.ArmsScoped K true xs arms → sc.ArmsScoped K false s.locals arms → un.ArmsUnique (λ z. z) bs arms → Reaching s xs (λ y. occurs_arms types y arms) → AllEntered all (tabulate_arms types s arms es)
          → AllEntered all es × ArmsClosed types T s arms
      closed-arms no_arms s xs bs es b l u h a = (a, tt)
      closed-arms (arm c e arms) s xs bs es (sc.arm_scoped {xs' = ys} i b r) (sc.arm_scoped j l m) (un.arm_unique {bs' = bs'} k u v) h a =
          let o = case-closed s c j in
          let p = closed e (case_scope types c s) ys bs' (tabulate_arms types s arms es) b (subst (λ ls. sc.IsScoped K false ls e) (sym o.1) l) u (case-reaches s c xs (λ y. occurs types y e) i (λ y i f. h y i (or_left (occurs types y e) (occurs_arms types y arms) f))) a in
          let q = closed-arms arms s xs bs es r m v (λ y i f. h y i (or_right (occurs types y e) (occurs_arms types y arms) f)) p.0 in (q.0, (o.0, (p.1, q.1)))

      closed-op : (o : Op K) (s : Scope) (xs bs : List ℕ) (es : List Entry) → sc.OpScoped K true xs o → sc.OpScoped K false s.locals o → un.OpUnique (λ z. z) bs o → Reaching s xs (λ y. occurs_op types y o) → AllEntered all (tabulate_op types s o es)
          → AllEntered all es × OpClosed types T s o
      closed-op (use_of x) s xs bs es (sc.use_scoped b) l u h a = (a, h x (among-in x b) (nat_eq-same x))
      closed-op (const k) s xs bs es b l u h a = (a, tt)
      closed-op (con_alone c t) s xs bs es b l u h a = (a, tt)
      closed-op (construct m c t d) s xs bs es b (sc.construct_scoped l) u h a = (a, among-in d l)
      closed-op (ref_alone t) s xs bs es b l u h a = (a, tt)
      closed-op (refer m t d) s xs bs es b (sc.refer_scoped l) u h a = (a, among-in d l)
      closed-op (content t d) s xs bs es b (sc.content_scoped l) u h a = (a, among-in d l)
      closed-op (pack m t y d) s xs bs es b (sc.pack_scoped l k) u h a = (a, (among-in y l, among-in d k))
      closed-op (make_record t row) s xs bs es b (sc.make_record_scoped l) u h a = (a, row-closed s l)
      closed-op (select t k d) s xs bs es b (sc.select_scoped l) u h a = (a, among-in d l)
      closed-op (prim_alone p t) s xs bs es b l u h a = (a, tt)
      closed-op (prim m p t as_) s xs bs es b (sc.prim_scoped l) u h a = (a, atoms-closed s l)
      closed-op (app place f d) s xs bs es b (sc.app_scoped l k) u h a = (a, (among-in f l, among-in d k))
      closed-op (fn f) s xs bs es (sc.fn_scoped b) (sc.fn_scoped l) (un.fn_unique u) h a =
          let e = entered f (cut s (wanted types s f)) (wanted types s f) [] es a in
          let p = closed-fun f (cut s (wanted types s f)) (wanted types s f) (number_of types f) [] xs bs es b l u (inner-alone s xs f h) e.0 a in
          (p.0, (made-by s f (cut s (wanted types s f)) (wanted types s f) e (made-alone s f), p.1))
      closed-op (block e) s xs bs es (sc.block_scoped b) (sc.block_scoped l) (un.block_unique u) h a = closed e s xs bs es b l u h a
      closed-op (handle e x d) s xs bs es (sc.handle_scoped b c) (sc.handle_scoped l m) (un.handle_unique u n v) h a =
          let p = closed e s xs bs (tabulate types (add x s) d es) b l u (λ y i f. h y i (or_left (occurs types y e) (occurs types y d) f)) a in
          let q = closed d (add x s) (x ∷ xs) (x ∷ bs) es c m v (reach-add s x xs (λ y. occurs types y d) (λ y i f. h y i (or_right (occurs types y e) (occurs types y d) f))) p.0 in (q.0, (p.1, q.1))
      closed-op (raise d) s xs bs es b (sc.raise_scoped l) u h a = (a, among-in d l)
      closed-op (raise_initial i) s xs bs es b l u h a = (a, tt)

      closed-fun : (f : Fun K) (ps : List Piece) (cs : List ℕ) (g : ℕ) (ms : List Member) (xs bs : List ℕ) (es : List Entry) → sc.FunScoped K true xs f → sc.FunScoped K false [] f → un.FunUnique (λ z. z) bs f → Inner xs ms cs (λ y. occurs_fun types y f) → T.captured g ≡ cs → AllEntered all (tabulate_fun types ps cs ms f es)
          → AllEntered all es × FunClosed types T g ms f
      closed-fun (last x t e) ps cs g ms xs bs es (sc.last_scoped b) (sc.last_scoped l) (un.last_unique n u) h is a =
          let p = closed e (scope_of cs ms x) (x ∷ xs) (x ∷ bs) es b l u (inner-body x xs ms cs (λ y. occurs types y e) h) a.1 in (p.0, subst (λ d. IsClosed types T (scope_of d ms x) e) (sym is) p.1)
      closed-fun (more x t f) ps cs g ms xs bs es (sc.more_scoped b) (sc.more_scoped l) (un.more_unique n u) h is a =
          let s = scope_of cs ms x in
          let e = entered f (cut s (wanted types s f)) (wanted types s f) [] es a.1 in
          let p = closed-fun f (cut s (wanted types s f)) (wanted types s f) (number_of types f) [] (x ∷ xs) (x ∷ bs) es b l u (inner-alone s (x ∷ xs) f (inner-body x xs ms cs (λ y. occurs_fun types y f) h)) e.0 a.1 in
          (p.0, (subst (λ d. IsMade T (scope_of d ms x) (number_of types f)) (sym is) (made-by s f (cut s (wanted types s f)) (wanted types s f) e (made-alone s f)), p.1))

      closed-funs : (group rest : Funs K) (ps : List Piece) (cs : List ℕ) (g : ℕ) (xs bs : List ℕ) (es : List Entry) → sc.FunsScoped K true xs rest → sc.FunsScoped K false [] rest → un.FunsUnique (λ z. z) bs rest → ((y : ℕ) → occurs_funs types y rest ≡ true → occurs_funs types y group ≡ true)
          → Inner xs (members types group) cs (λ y. occurs_funs types y group) → Needs rest (T.captured g ≡ cs) → AllEntered all (tabulate_funs types ps cs (members types group) rest es) → AllEntered all es × FunsClosed types T g (members types group) rest
      closed-funs group no_funs ps cs g xs bs es b l u sub h is a = (a, tt)
      closed-funs group (fun x t f rest) ps cs g xs bs es (sc.fun_scoped b c) (sc.fun_scoped l m) (un.fun_unique u v) sub h is a =
          let p = closed-fun f ps cs g (members types group) xs bs (tabulate_funs types ps cs (members types group) rest es) b l u (λ y i o. h y i (sub y (or_left (occurs_fun types y f) (occurs_funs types y rest) o))) is a in
          let q = closed-funs group rest ps cs g xs bs es c m v (λ y o. sub y (or_right (occurs_fun types y f) (occurs_funs types y rest) o)) h (needs rest is) p.0 in (q.0, (p.1, q.1))
