-- One exception more.
use Rattle.std.proofs.Common.{◌≡◌, ◌<◌, ◌≤◌, ◌+◌, ◌&&◌, ℕ, suc, Bool, true, false, cond, List, [], ◌∷◌, ◌++◌, map, length, take, get_or, Option, Some, None, nat_eq, refl, sym, ap, ap₂, subst, ◌∙◌, arith, eq-eqb, eqb-true}
use Rattle.std.specs.Prelude.{option_map}
use Rattle.std.specs.List.{AllByRecursion, list_all}
use Rattle.std.proofs.lemmas.Bool.{and_parts}
use Rattle.std.proofs.lemmas.List.{map-append}
use Rattle.std.proofs.Math.Seq.{take-suc}
use Rattle.mlc_base.specs.declared.place.Place.{Place}
use Rattle.ty_core.specs.Types.{Typ, var}
use Rattle.ty_core.specs.Statics.{replace}
use Rattle.sml_tree.specs.Terminal.{LongVid}
use Rattle.sml_tree.specs.BareTree.{ExBind, Ty, new_exn, same_exn}
use Rattle.sml_tree.specs.TreeOf.{ex_bind_of}
use Rattle.sml_tree.specs.declared.ident.Vid.{Vid}
use Rattle.sml_tree.specs.declared.ident.Vid.TheVariants.{Named}
use Rattle.sml_tree.specs.declared.tree.ExBind.{ExBind as Bind}
use Rattle.core_rules.specs.Elaborated.{behind_of, is_exception}
use Rattle.core_rules.specs.Eval.{identifier}
use Rattle.core_rules.specs.Restrictions.{exn_vids, may_construct}
use Rattle.ir_poly.specs.Prog as prog
use Rattle.ir_poly.specs.Prog.{held}
use Rattle.ir_poly.specs.TestsChecked.{Known, Knowns, exception as exception_known}
use Rattle.ir_poly.specs.TestsChecked as checked
use Rattle.ir_poly.specs.Types.{over}
use Rattle.core_elab.specs.Resolves.{joined}
use Rattle.core_elab.specs.Scopes.{Denotes, Scope, empty, exception, long_denotes_in, plus_scope, scoped}
use Rattle.prog_tree.specs.TreeOf.{DecTree, RuleTree, exception_tree, dec_of, decs_of, node_dec, node_exp, node_function, node_rule}
use Rattle.prog_tree.specs.declared.tree.Dec.{Dec, Dec-F, fold-roll-Dec}
use Rattle.prog_tree.specs.declared.tree.Dec.TheVariants as decs
use Rattle.elab_typed.specs.Contexts.{Around, Kept, KeptValues, context_under, kept_in, raised, value_under}
use Rattle.elab_typed.specs.Elaborates.{ExnsElab, no_exns_elab, new_exn_elab, same_exn_elab}
use Rattle.elab_typed.specs.Instances.{as_typed}
use Rattle.elab_typed.proofs.Names.{over-as}
use Rattle.closed_types.specs.of_elab_state.declared.state.State.{State}
use Rattle.closed_types.specs.of_elab_steps.Growing.{Grows}
use Rattle.closed_types.specs.of_elab_steps.World.{World, type_of}
use Rattle.closed_types.proofs.of_elab_steps.Growing.{grows_same, grows_on, comes_before, type_later}
use Rattle.exp_forms.specs.of_elab_context.Entries.{entry_in}
use Rattle.exp_forms.specs.of_elab_context.Telling.{IsContext, IsFit, IsHeld, IsHeldIf, IsInUseIf, denotes_of, kept_of, known_of, kept_entries, scope_of_entries, vids_in}
use Rattle.exp_forms.specs.of_elab_context.declared.context.Context.{Context}
use Rattle.exp_forms.specs.of_elab_context.declared.entry.Entry.{Entry}
use Rattle.exp_forms.specs.of_elab_context.declared.entry.Entry.TheVariants.{Constructor, Reference, Initial, Primitive, Raised, Single, Own, General}
use Rattle.exp_forms.specs.of_elab_context.Numbered.{IsBelowIf}
use Rattle.exp_forms.proofs.of_elab_context.Reading.{below-later}
use Rattle.exp_forms.proofs.Entering.{number-known}
use Rattle.dec_forms.specs.Entries.{constructing_name}
use Rattle.dec_forms.proofs.Listed.{all-append, all-map, constructing-is, constructing-may, scope-append}
use Rattle.dec_forms.proofs.Several.{decs-append}
use Rattle.dec_forms.specs.Exceptions.{AreExns, ElaboratesExns, IsArgumentOf, IsBehind, IsNoExceptionIn, is_raised}
use Rattle.dec_forms.specs.declared.made.Argument.{Argument}
use Rattle.dec_forms.specs.declared.made.ExnsMade.{ExnsMade}

-- behind others

exns-new : {A : Around} {G G' : Knowns} {k j : ℕ} {bs : List ExBind} {ds : prog.Decs} {vs : KeptValues} {r : Scope} (p : Place) (x : Vid) (n : ℕ) (a : Option Typ) (t : Option Ty)
    → ExnsElab A G k bs ds vs r j G' → j ≤ n → ((s : ℕ → Typ) → behind_of (context_under s A) t ≡ Some (option_map (replace s) a))
    → ((u : Typ) → a ≡ Some u → over A.parameters (as_typed A u) ≡ true)
    → ExnsElab A G k (bs ++ new_exn p x t ∷ []) (joined ds (prog.exception_dec n (identifier x) (option_map (as_typed A) a) prog.no_decs)) (vs ++ (x, raised a) ∷ [])
    (plus_scope (scoped x (exception (held n)) empty) r) (suc n) ((n, exception_known (option_map (as_typed A) a)) ∷ G')
exns-new p x n a t no_exns_elab le b o = new_exn_elab p x n a le b o no_exns_elab
exns-new p x n a t (new_exn_elab q y m c l d e f) le b o = new_exn_elab q y m c l d e (exns-new p x n a t f le b o)
exns-new p x n a t (same_exn_elab q y z e i d f) le b o = same_exn_elab q y z e i d (exns-new p x n a t f le b o)

exns-same : {A : Around} {G G' : Knowns} {k j : ℕ} {bs : List ExBind} {ds : prog.Decs} {vs : KeptValues} {r : Scope} (p : Place) (x : Vid) (q : Place) (y : LongVid) (v : Kept) (d : Denotes)
    → ExnsElab A G k bs ds vs r j G' → kept_in A.env y ≡ Some v → is_exception (value_under var v).status ≡ true → long_denotes_in A.scope y ≡ Some d
    → ExnsElab A G k (bs ++ same_exn p x q y ∷ []) ds (vs ++ (x, v) ∷ []) (plus_scope (scoped x d empty) r) j G'
exns-same p x q y v d no_exns_elab e i s = same_exn_elab p x q e i s no_exns_elab
exns-same p x q y v d (new_exn_elab p' x' n a l b o f) e i s = new_exn_elab p' x' n a l b o (exns-same p x q y v d f e i s)
exns-same p x q y v d (same_exn_elab p' x' q' e' i' s' f) e i s = same_exn_elab p' x' q' e' i' s' (exns-same p x q y v d f e i s)

-- the program's declaration of a new one

exception-tree : (W : World) (n i : ℕ) (a : Option ℕ) → dec_of W.reading (decs.Exception n i a) ≡ exception_tree n i (option_map W.reading.type a)
exception-tree W n i a =
    ap (dec_of W.reading) (sym (decs.rolls-Exception n i a))
    ∙ fold-roll-Dec DecTree prog.Exp prog.Fun RuleTree (node_dec W.reading) (node_exp W.reading) (node_function W.reading) (node_rule W.reading) (Dec-F.Exception n i a)

-- what is known

kept-known : (G : Knowns) (n m : ℕ) (v : Known) → m < n → checked.at ((n, v) ∷ G) m ≡ checked.at G m
kept-known G n m v lt = by (nat_eq m n) refl
  where
    by : (b : Bool) → nat_eq m n ≡ b → cond b (Some v) (checked.at G m) ≡ checked.at G m
    by true e = let same = eqb-true m n e in absurd (omega (arith, same, lt))
    by false e = refl

new-known : (G : Knowns) (n : ℕ) (v : Known) → checked.at ((n, v) ∷ G) n ≡ Some v
new-known G n v = ap (λ b. cond b (Some v) (checked.at G n)) (eq-eqb n n refl)

pair-of : (a b : ℕ × Known) → Some a ≡ Some b → (a.0 ≡ b.0) × (a.1 ≡ b.1)
pair-of a b e = let q : a ≡ b = cc in (ap (λ (z : ℕ × Known). z.0) q, ap (λ (z : ℕ × Known). z.1) q)

map-map : {A B C : Type 0} (f : B → C) (g : A → B) (o : Option A) → option_map f (option_map g o) ≡ option_map (λ a. f (g a)) o
map-map f g None = refl
map-map f g (Some a) = refl

list-all-append : (xs : List Vid) (x : Vid) → list_all may_construct xs ≡ true → may_construct x ≡ true → list_all may_construct (xs ++ x ∷ []) ≡ true
list-all-append [] x h m = ap (λ b. b && true) m
list-all-append (y ∷ xs) x h m =
    let p = and_parts (may_construct y) (list_all may_construct xs) h in ap₂ (λ a b. a && b) p.0 (list-all-append xs x p.1 m)

none-over : (W : World) (A : Around) (o : Option ℕ) → IsInUseIf W A o → (u : Typ) → option_map (type_of W) o ≡ Some u → over A.parameters (as_typed A u) ≡ true
none-over W A None h u e = cc
none-over W A (Some k) h u e = let same : type_of W k ≡ u = cc in over-as A.number A.parameters u ∙ subst (λ t. over A.parameters t ≡ true) same h.parameters

fit-raised : (C : Context) (W : World) (A : Around) (n : ℕ) (o : Option ℕ) → IsInUseIf W A o → IsFit C W A (Raised n o)
fit-raised C W A n None h = tt
fit-raised C W A n (Some k) h = h

held-raised : (T : State) (C : Context) (n : ℕ) (o : Option ℕ) → IsHeldIf T o → IsHeld T C (Raised n o)
held-raised T C n None h = h
held-raised T C n (Some k) h = h

held-if-later : (S T : State) (o : Option ℕ) → Grows S T → IsHeldIf S o → IsHeldIf T o
held-if-later S T None g h = tt
held-if-later S T (Some t) g h = type_later S T t g h

one-later : (S T : State) (C : Context) → Grows S T → (e : Entry) → is_raised e ≡ true → IsHeld S C e → IsHeld T C e
one-later S T C g (Constructor s n y) r h = cc
one-later S T C g (Reference s) r h = cc
one-later S T C g (Initial s n) r h = h
one-later S T C g (Primitive s q) r h = cc
one-later S T C g (Raised n None) r h = tt
one-later S T C g (Raised n (Some k)) r h = type_later S T k g h
one-later S T C g (Single t n) r h = cc
one-later S T C g (Own t n) r h = cc
one-later S T C g (General l t n o) r h = cc

raised-later : (S T : State) (C : Context) → Grows S T → (es : List (Vid × Entry)) → AllByRecursion (λ e. is_raised e.1 ≡ true) es → AllByRecursion (λ e. IsHeld S C e.1) es
    → AllByRecursion (λ e. IsHeld T C e.1) es
raised-later S T C g [] r h = tt
raised-later S T C g (e ∷ es) r h = (one-later S T C g e.1 r.0 h.0, raised-later S T C g es r.1 h.1)

vids-append : (bs : List ExBind) (b : ExBind) → exn_vids (bs ++ b ∷ []) ≡ exn_vids bs ++ exn_vids (b ∷ [])
vids-append [] b = refl
vids-append (d ∷ bs) b = ap (λ l. exn_vids (d ∷ []) ++ l) (vids-append bs b)

-- a new one

new-elab : (C : Context) (W : World) (A : Around) (k m n j : ℕ) (bs : List ExBind) (p : Place) (x : Vid) (name : ℕ) (o : Option Ty) (arg : Argument) (xs : List Dec) (es : List (Vid × Entry))
    → x ≡ Named name → m ≤ n → j ≡ suc n → AllByRecursion (λ e. IsBelowIf m e.1) es → k ≤ m → IsBehind W A o arg → ElaboratesExns C W A k bs (decs_of (map (dec_of W.reading) xs)) es m
    → ElaboratesExns C W A k (bs ++ new_exn p x o ∷ []) (decs_of (map (dec_of W.reading) (xs ++ decs.Exception n name arg.written ∷ []))) (es ++ (x, Raised n arg.ty) ∷ []) j
new-elab C W A k m n j bs p x name o arg xs es named le next below low b h =
    let R = W.reading in
    let a = option_map (type_of W) arg.ty in
    let v = exception_known (option_map (as_typed A) a) in
    let node = prog.exception_dec n (identifier x) (option_map (as_typed A) a) prog.no_decs in
    let node-is : decs_of (map (dec_of R) (decs.Exception n name arg.written ∷ [])) ≡ node =
    ap (λ (z : DecTree). decs_of (z ∷ [])) (exception-tree W n name arg.written)
    ∙ ap₂ (λ i u. prog.exception_dec n i u prog.no_decs) (sym (ap identifier named)) b.written in
    let tree-is : decs_of (map (dec_of R) (xs ++ decs.Exception n name arg.written ∷ [])) ≡ joined (decs_of (map (dec_of R) xs)) node =
    ap decs_of (map-append (dec_of R) xs (decs.Exception n name arg.written ∷ [])) ∙ decs-append (map (dec_of R) xs) (map (dec_of R) (decs.Exception n name arg.written ∷ []))
    ∙ ap (joined (decs_of (map (dec_of R) xs))) node-is in
    let kept-is : kept_entries C W (es ++ (x, Raised n arg.ty) ∷ []) ≡ kept_entries C W es ++ (x, raised a) ∷ [] =
    map-append (λ (e : Vid × Entry). (e.0, kept_of C W e.1)) es ((x, Raised n arg.ty) ∷ []) in
    let elab = exns-new p x n a o h.elab le b.stands (none-over W A arg.ty b.in_use) in
    let G = (n, v) ∷ h.known in
    let same : known_of W A (Raised n arg.ty) ≡ Some (n, v) = ap (λ z. Some (n, exception_known z)) (sym (map-map (as_typed A) (type_of W) arg.ty)) in
    record {
      known = G;
      elab =
          subst (λ z. ExnsElab A A.known k (bs ++ new_exn p x o ∷ []) z (kept_entries C W (es ++ (x, Raised n arg.ty) ∷ [])) (scope_of_entries (es ++ (x, Raised n arg.ty) ∷ [])) j G) (sym tree-is)
          (subst
          (λ z. ExnsElab A A.known k (bs ++ new_exn p x o ∷ []) (joined (decs_of (map (dec_of R) xs)) node) z (scope_of_entries (es ++ (x, Raised n arg.ty) ∷ [])) j G) (sym kept-is)
          (subst (λ z. ExnsElab A A.known k (bs ++ new_exn p x o ∷ []) (joined (decs_of (map (dec_of R) xs)) node) (kept_entries C W es ++ (x, raised a) ∷ []) z j G)
          (sym (scope-append es (x, Raised n arg.ty)))
          (subst
          (λ z. ExnsElab A A.known k (bs ++ new_exn p x o ∷ []) (joined (decs_of (map (dec_of R) xs)) node) (kept_entries C W es ++ (x, raised a) ∷ [])
          (plus_scope (scoped x (exception (held n)) empty) (scope_of_entries es)) z G)
          (sym next) elab)));
      older = λ i lt. kept-known h.known n i v (omega (arith, lt, le, low)) ∙ h.older i lt;
      newer =
          all-append (λ (e : Vid × Entry). (i : ℕ) (u : Known) → known_of W A e.1 ≡ Some (i, u) → checked.at G i ≡ Some u) es (x, Raised n arg.ty)
          (each es below h.newer) (λ i u e. let q = pair-of (n, v) (i, u) (sym same ∙ e) in ap (checked.at G) (sym q.0) ∙ new-known h.known n v ∙ ap Some q.1);
      fit = all-append (λ (e : Vid × Entry). IsFit C W A e.1) es (x, Raised n arg.ty) h.fit (fit-raised C W A n arg.ty b.in_use);
    }
  where
    each : (ds : List (Vid × Entry)) → AllByRecursion (λ e. IsBelowIf m e.1) ds
        → AllByRecursion (λ e. (i : ℕ) (u : Known) → known_of W A e.1 ≡ Some (i, u) → checked.at h.known i ≡ Some u) ds
        → AllByRecursion (λ e. (i : ℕ) (u : Known) → known_of W A e.1 ≡ Some (i, u)
        → checked.at ((n, exception_known (option_map (as_typed A) (option_map (type_of W) arg.ty))) ∷ h.known) i ≡ Some u) ds
    each [] l f = tt
    each (d ∷ ds) l f = (
      λ i u e.
          let lt = l.0 i (number-known W A d.1 i u e) in
          kept-known h.known n i (exception_known (option_map (as_typed A) (option_map (type_of W) arg.ty))) (omega (arith, lt, le)) ∙ f.0 i u e,
      each ds l.1 f.1,
    )

pub new_added : (S M N T : State) (C : Context) (bs : List ExBind) (p : Place) (x : Vid) (name n : ℕ) (o : Option Ty) (arg : Argument) (old new : ExnsMade) → AreExns S C bs M old
    → constructing_name x ≡ Some name → IsArgumentOf M C o N arg → Grows N T → n ≡ N.next → T.next ≡ n + 1 → new.decs.items ≡ old.decs.items ++ decs.Exception n name arg.written ∷ []
    → new.values.items ≡ old.values.items ++ (Named name, Raised n arg.ty) ∷ [] → AreExns S C (bs ++ new_exn p x o ∷ []) T new
new_added S M N T C bs p x name n o arg old new h cn a g en nx ed en' =
    let ev : new.values.items ≡ old.values.items ++ (x, Raised n arg.ty) ∷ [] =
    en' ∙ ap (λ (v : Vid). old.values.items ++ (v, Raised n arg.ty) ∷ []) (sym (constructing-is x name cn)) in
    let mt = grows_on M N T a.grows g in
    let es = old.values.items in
    let last : Vid × Entry = (x, Raised n arg.ty) in
    let low : M.next ≤ n = let e = a.next in omega (arith, e, en) in
    let up : M.next ≤ T.next = mt.next in
    let within : n < T.next = omega (arith, nx) in
    let names : vids_in (es ++ last ∷ []) ≡ exn_vids (bs ++ new_exn p x o ∷ []) =
    map-append (λ (e : Vid × Entry). e.0) es (last ∷ []) ∙ ap (λ l. l ++ x ∷ []) h.vids ∙ sym (vids-append bs (new_exn p x o)) in
    record {
      grows = grows_on S M T h.grows mt;
      vids = ap vids_in ev ∙ names;
      unkept = ap (list_all may_construct) (vids-append bs (new_exn p x o)) ∙ list-all-append (exn_vids bs) x h.unkept (constructing-may x name cn);
      raised = subst (AllByRecursion (λ e. is_raised e.1 ≡ true)) (sym ev) (all-append (λ (e : Vid × Entry). is_raised e.1 ≡ true) es last h.raised refl);
      held =
          subst (AllByRecursion (λ e. IsHeld T C e.1)) (sym ev)
          (all-append (λ (e : Vid × Entry). IsHeld T C e.1) es last (raised-later M T C mt es h.raised h.held) (held-raised T C n arg.ty (held-if-later N T arg.ty g a.held)));
      below = λ num.
          subst (AllByRecursion (λ e. IsBelowIf T.next e.1)) (sym ev)
          (all-append (λ (e : Vid × Entry). IsBelowIf T.next e.1) es last
          (all-map (λ (e : Vid × Entry). IsBelowIf M.next e.1) (λ (e : Vid × Entry). IsBelowIf T.next e.1) es (λ e b. below-later M.next T.next e.1 up b) (h.below num))
          (λ i e. let q : n ≡ i = cc in omega (arith, q, within)));
      gives = λ num W c A t.
          let cn' = comes_before N T W g c in
          let start = h.gives num W (comes_before M T W mt c) A t in
          let next : T.next ≡ suc n = omega (arith, nx) in
          subst (λ z. ElaboratesExns C W A S.next (bs ++ new_exn p x o ∷ []) (decs_of (map (dec_of W.reading) z)) new.values.items T.next) (sym ed)
          (subst
          (λ z. ElaboratesExns C W A S.next (bs ++ new_exn p x o ∷ []) (decs_of (map (dec_of W.reading) (old.decs.items ++ decs.Exception n name arg.written ∷ []))) z T.next) (sym ev)
          (new-elab C W A S.next M.next n T.next bs p x name o arg old.decs.items es (constructing-is x name cn) low next (h.below num) h.grows.next (a.gives W cn' A t) start));
    }

-- what another is

status-of : (C : Context) (W : World) (e : Entry) → is_exception (value_under var (kept_of C W e)).status ≡ is_raised e
status-of C W (Constructor s n y) = refl
status-of C W (Reference s) = refl
status-of C W (Initial s n) = refl
status-of C W (Primitive s q) = refl
status-of C W (Raised n a) = refl
status-of C W (Single t n) = refl
status-of C W (Own t n) = refl
status-of C W (General l t n o) = refl

pub no_exception : (C : Context) (x : LongVid) (e : Entry) → entry_in C x.qualifiers x.vid ≡ Some e → is_raised e ≡ false → IsNoExceptionIn C x
no_exception C x e h r W A t v k =
    let q : Some v ≡ Some (kept_of C W e) = sym k ∙ t.values x ∙ ap (option_map (kept_of C W)) h in
    let s : v ≡ kept_of C W e = cc in ap (λ z. is_exception (value_under var z).status) s ∙ status-of C W e ∙ r

pub same_added : (S M : State) (C : Context) (bs : List ExBind) (p : Place) (x : Vid) (name : ℕ) (q : Place) (y : LongVid) (e : Entry) (old new : ExnsMade) → IsContext M C → AreExns S C bs M old
    → constructing_name x ≡ Some name → entry_in C y.qualifiers y.vid ≡ Some e → is_raised e ≡ true → new.decs.items ≡ old.decs.items → new.values.items ≡ old.values.items ++ (Named name, e) ∷ []
    → AreExns S C (bs ++ same_exn p x q y ∷ []) M new
same_added S M C bs p x name q y e old new ic h cn is r ed en =
    let ev : new.values.items ≡ old.values.items ++ (x, e) ∷ [] = en ∙ ap (λ (v : Vid). old.values.items ++ (v, e) ∷ []) (sym (constructing-is x name cn)) in
    let es = old.values.items in
    let last : Vid × Entry = (x, e) in
    record {
      grows = h.grows;
      vids =
          ap vids_in ev ∙ map-append (λ (e : Vid × Entry). e.0) es (last ∷ []) ∙ ap (λ l. l ++ x ∷ []) h.vids ∙ sym (vids-append bs (same_exn p x q y));
      unkept = ap (list_all may_construct) (vids-append bs (same_exn p x q y)) ∙ list-all-append (exn_vids bs) x h.unkept (constructing-may x name cn);
      raised = subst (AllByRecursion (λ e. is_raised e.1 ≡ true)) (sym ev) (all-append (λ (e : Vid × Entry). is_raised e.1 ≡ true) es last h.raised r);
      held = subst (AllByRecursion (λ e. IsHeld M C e.1)) (sym ev) (all-append (λ (e : Vid × Entry). IsHeld M C e.1) es last h.held (ic.entries y.qualifiers y.vid e is));
      below = λ num.
          subst (AllByRecursion (λ e. IsBelowIf M.next e.1)) (sym ev)
          (all-append (λ (e : Vid × Entry). IsBelowIf M.next e.1) es last (h.below num) (below-later S.next M.next e h.grows.next (num y.qualifiers y.vid e is)));
      gives = λ num W c A t.
          let a = h.gives num W c A t in
          let x' = decs_of (map (dec_of W.reading) old.decs.items) in
          let bs' = bs ++ same_exn p x q y ∷ [] in
          let elab = exns-same p x q y (kept_of C W e) (denotes_of e) a.elab (t.values y ∙ ap (option_map (kept_of C W)) is) (status-of C W e ∙ r) (t.denotes y ∙ ap (option_map denotes_of) is) in
          subst (λ z. ElaboratesExns C W A S.next bs' (decs_of (map (dec_of W.reading) z)) new.values.items M.next) (sym ed)
          (subst (λ z. ElaboratesExns C W A S.next bs' x' z M.next) (sym ev)
          (record {
            known = a.known;
            elab =
                subst (λ z. ExnsElab A A.known S.next bs' x' z (scope_of_entries (es ++ last ∷ [])) M.next a.known)
                (sym (map-append (λ (e : Vid × Entry). (e.0, kept_of C W e.1)) es (last ∷ [])))
                (subst (λ z. ExnsElab A A.known S.next bs' x' (kept_entries C W es ++ (x, kept_of C W e) ∷ []) z M.next a.known) (sym (scope-append es last)) elab);
            older = a.older;
            newer =
                all-append (λ (e : Vid × Entry). (i : ℕ) (u : Known) → known_of W A e.1 ≡ Some (i, u) → checked.at a.known i ≡ Some u) es last a.newer
                (λ i u k. a.older i (num y.qualifiers y.vid e is i (number-known W A e i u k)) ∙ t.known y e i u is k);
            fit = all-append (λ (e : Vid × Entry). IsFit C W A e.1) es last a.fit (t.fit y e is);
          }));
    }

-- none yet
pub no_exns : (S : State) (C : Context) (made : ExnsMade) → made.decs.items ≡ [] → made.values.items ≡ [] → AreExns S C [] S made
no_exns S C made d v = record {
  grows = grows_same S;
  vids = ap vids_in v;
  unkept = refl;
  raised = subst (AllByRecursion (λ e. is_raised e.1 ≡ true)) (sym v) tt;
  held = subst (AllByRecursion (λ e. IsHeld S C e.1)) (sym v) tt;
  below = λ num. subst (AllByRecursion (λ e. IsBelowIf S.next e.1)) (sym v) tt;
  gives = λ num W c A t.
      subst (λ z. ElaboratesExns C W A S.next [] (decs_of (map (dec_of W.reading) z)) made.values.items S.next) (sym d)
      (subst (λ z. ElaboratesExns C W A S.next [] prog.no_decs z S.next) (sym v) (record { known = A.known; elab = no_exns_elab; older = λ n lt. refl; newer = tt; fit = tt }));
}

-- one binding of a list more
pub binds-next : (bs : List Bind) (i : ℕ) (b : Bind) → i < length bs → b ≡ get_or bs i b → map ex_bind_of (take i bs) ++ ex_bind_of b ∷ [] ≡ map ex_bind_of (take (i + 1) bs)
binds-next bs i b lt e =
    let up : suc i ≡ i + 1 = omega arith in
    sym (map-append ex_bind_of (take i bs) (b ∷ [])) ∙ ap (map ex_bind_of) (ap (λ (z : Bind). take i bs ++ z ∷ []) e ∙ sym (take-suc bs i b lt) ∙ ap (λ j. take j bs) up)
