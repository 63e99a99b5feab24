-- The declaration of bindings.
use Rattle.std.proofs.Common.{◌≡◌, ◌≤◌, ◌<◌, ◌+◌, ◌||◌, nat_eq, ℕ, true, false, List, [], ◌∷◌, ◌++◌, map, length, take, get_or, Some, slice_get, Vec, Global, refl, sym, ap, ap₂, subst, ◌∙◌, arith}
use Rattle.std.specs.List.{AllByRecursion}
use Rattle.std.proofs.lemmas.Option.{slice_get_within, get_or_from_slice_get}
use Rattle.std.proofs.lemmas.List.{map-append}
use Rattle.std.proofs.Math.Seq.{take-suc}
use Rattle.mlc_base.specs.declared.place.Place.{Place}
use Rattle.ty_core.specs.Marks.{is_inhabited}
use Rattle.ty_core.specs.declared.scheme.Quantified.{Quantified}
use Rattle.ty_solve.specs.Limits.{limit_at}
use Rattle.ty_solve.specs.Said.{said}
use Rattle.ty_solve.specs.Substitution.{Solves}
use Rattle.sml_tree.specs.BareTree as bare
use Rattle.sml_tree.specs.TreeOf.{RuleOf, binds_of}
use Rattle.sml_tree.specs.declared.ident.Tyvar.{Tyvar}
use Rattle.sml_tree.specs.declared.ident.Vid.{Vid}
use Rattle.vid_scope.specs.Entries.{with_entry, with_entries}
use Rattle.vid_scope.specs.declared.vids.VidScope.{VidScope}
use Rattle.core_rules.specs.Choices.{no_choice, both}
use Rattle.core_rules.specs.Restrictions.{distinct}
use Rattle.core_rules.specs.Typing.{Bound, bound_in, AreDistinct, mark_of, together}
use Rattle.core_rules.specs.Words.{same_vid}
use Rattle.ir_poly.specs.Prog as prog
use Rattle.ir_poly.specs.ProgChecked.{binds_onto}
use Rattle.ir_poly.specs.Types.{find, in_scope}
use Rattle.ir_tables.specs.Rows.{constructors_at}
use Rattle.ir_tables.specs.Tables.{parameters_at, parameters_of}
use Rattle.core_elab.specs.Resolves.{no_heads_to}
use Rattle.prog_tree.specs.TreeOf.{RuleTree, bind_of, binds_by, dec_of, decs_of, fun_of, funs_by}
use Rattle.prog_tree.specs.declared.tree.Binding.{Binding}
use Rattle.prog_tree.specs.declared.tree.Dec.{Dec}
use Rattle.prog_tree.specs.declared.tree.Dec.TheVariants as decs
use Rattle.prog_tree.specs.declared.tree.Function.{Function}
use Rattle.prog_tree.specs.declared.tree.Rule.{Rule}
use Rattle.prog_tree.proofs.ExpOf.{dec_of-Val}
use Rattle.elab_typed.specs.Contexts.{Around, IsOver, after, generals, generic, kept_values}
use Rattle.elab_typed.specs.Elaborates.{BindsElab, DecElab, inner, no_funs_elab, scoped_as, val_elab}
use Rattle.elab_scoped.proofs.Phrases.{none_is_new}
use Rattle.closed_types.specs.of_elab_state.States.{all_parameters, limit_in, made}
use Rattle.closed_types.specs.of_elab_state.declared.state.State.{State}
use Rattle.closed_types.specs.of_elab_steps.Growing.{Begins, Grows}
use Rattle.closed_types.specs.of_elab_steps.World.{World}
use Rattle.closed_types.proofs.of_elab_steps.Changing.{begins-more, begins-same, constructors-stay, same-limit, solver-makes}
use Rattle.closed_types.proofs.of_elab_steps.Keeping.{Makes, makes-done, makes-tidy}
use Rattle.closed_types.proofs.of_elab_steps.Growing.{grows_on, comes_before, general-type}
use Rattle.exp_forms.specs.of_elab_context.Numbered.{IsBelowIf}
use Rattle.exp_forms.specs.of_elab_context.Telling.{HasList, IsContext, IsHeld, Tells}
use Rattle.exp_forms.specs.of_elab_context.declared.context.Context.{Context}
use Rattle.exp_forms.specs.of_elab_context.declared.entry.Entry.{Entry}
use Rattle.exp_forms.specs.of_elab_context.declared.entry.Entry.TheVariants.{General}
use Rattle.exp_forms.proofs.of_elab_context.Reading.{context_later}
use Rattle.exp_forms.specs.of_pat_elab.Elaborated.{AreVariables, bound_of, scope_of}
use Rattle.exp_forms.specs.of_pat_elab.declared.bound.BoundVariable.{BoundVariable}
use Rattle.exp_forms.proofs.of_pat_elab.Forms.{all-later}
use Rattle.exp_forms.specs.Binding.{Binding as Binds}
use Rattle.exp_forms.specs.Rules.{vids_of}
use Rattle.exp_forms.proofs.Entering.{context_with}
use Rattle.exp_forms.proofs.JoiningRules.{vids-bound}
use Rattle.dec_forms.specs.Decs.{DecUpTo, ElaboratesDec, IsDec}
use Rattle.dec_forms.specs.Telling.{with_all}
use Rattle.dec_forms.proofs.Telling.{tells_further}
use Rattle.dec_forms.specs.Binds.{AreBinds, ElaboratesBinds, all_plus, plain_entries}
use Rattle.dec_forms.proofs.JoiningBinds.{bind_choices, binds-do}
use Rattle.dec_forms.proofs.Knowing.{binds-known, plain_further}

-- inside a declaration with no parameters nothing else is around

scoped-none : (as_ : List Tyvar) → scoped_as as_ [] ≡ []
scoped-none [] = refl
scoped-none (a ∷ as_) = refl

inner-same : (A : Around) (as_ : List Tyvar) (bs rs : bare.Binds) → inner A as_ bs rs [] ≡ A
inner-same A as_ bs rs = ap (λ m. record A { tyvars = m ++ A.tyvars }) (scoped-none (Rattle.core_rules.specs.Typing.scoped_in (generic A) as_ bs rs))

append-nil : (vs : Bound) → vs ++ [] ≡ vs
append-nil [] = refl
append-nil (v ∷ vs) = ap (λ l. v ∷ l) (append-nil vs)

dec-made : (W : World) (A : Around) (k j : ℕ) (p q : Place) (rs : List RuleOf) (xs : List (Binding × RuleTree)) (bs : List BoundVariable) → IsOver A
    → distinct same_vid (vids_of bs) ≡ true → (b : ElaboratesBinds W A k rs xs bs j) → (h : ℕ) → h ≤ k
    → DecUpTo W.table A h (bare.val_dec p q [] (binds_of rs) bare.no_binds) (prog.val_dec [] (binds_by W.reading.type xs) prog.no_funs prog.no_decs) 0 A.number
    (kept_values (generals [] (bound_of W bs))) (scope_of bs) (binds_onto [] (binds_by W.reading.type xs) A.known) (both (bind_choices (generic A).env rs b.choices) no_choice) j
dec-made W A k j p q rs xs bs o d b h le =
    let f = b.elab h le in
    let ys = binds_by W.reading.type xs in
    let G = binds_onto [] ys A.known in
    let whole = binds-do f.elab in
    let none = none_is_new W.table A h h f.next (binds_of rs) ys b.types (bind_choices (generic A).env rs b.choices) (all_plus b.scopes) whole in
    let cs = bind_choices (generic A).env rs b.choices in
    let all : together b.types ++ [] ≡ bound_of W bs = append-nil (together b.types) ∙ b.bound in
    let once : AreDistinct (bound_in (together b.types ++ [])) = ap (λ l. distinct same_vid (bound_in l)) all ∙ ap (distinct same_vid) (vids-bound W bs) ∙ d in
    let binds : BindsElab W.table A (inner A [] (binds_of rs) bare.no_binds []) h h (binds_of rs) ys b.types cs (all_plus b.scopes) f.next =
    subst (λ B. BindsElab W.table A B h h (binds_of rs) ys b.types cs (all_plus b.scopes) f.next) (sym (inner-same A [] (binds_of rs) bare.no_binds)) whole in
    let dec : DecElab W.table A h (bare.val_dec p q [] (binds_of rs) bare.no_binds) (prog.val_dec [] ys prog.no_funs prog.no_decs) 0 A.number
    (kept_values (generals [] (together b.types ++ []))) (all_plus b.scopes) G (both cs no_choice) f.next =
    val_elab p q [] [] {us = []} refl o (sym (ap (λ as_. map mark_of as_ ++ []) none)) refl once no_heads_to no_funs_elab binds in
    record {
      next = f.next;
      most = f.most;
      elab =
          subst (λ s. DecElab W.table A h (bare.val_dec p q [] (binds_of rs) bare.no_binds) (prog.val_dec [] ys prog.no_funs prog.no_decs) 0 A.number
          (kept_values (generals [] (bound_of W bs))) s G (both cs no_choice) f.next) b.scope
          (subst (λ l. DecElab W.table A h (bare.val_dec p q [] (binds_of rs) bare.no_binds) (prog.val_dec [] ys prog.no_funs prog.no_decs) 0 A.number
          (kept_values (generals [] l)) (all_plus b.scopes) G (both cs no_choice) f.next) all dec);
    }

pub declared_is : (S N T : State) (C D : Context) (l : ℕ) (bs : List BoundVariable) (binds : Vec (Binding × Rule) Global) (none : Vec (Vec ℕ Global × ℕ × Function) Global) (dec : Dec)
    (p q : Place) (rs : List RuleOf) → IsContext S C → AreBinds S C rs N bs binds.items → distinct same_vid (vids_of bs) ≡ true → Grows N T → T.next ≡ N.next
    → slice_get (parameters_of T.tables) l ≡ Some [] → D ≡ with_all C (plain_entries l bs) → none.items ≡ [] → dec ≡ decs.Val l binds none
    → IsDec S C (bare.val_dec p q [] (binds_of rs) bare.no_binds) T D (dec ∷ [])
declared_is S N T C D l bs binds none dec p q rs ic h once gt nx list is nothing ex = record {
  grows = grows_on S N T h.grows gt;
  gives = λ W c A t.
      let R = W.reading in
      let xs = map (bind_of R) binds.items in
      let ys = binds_by R.type xs in
      let b = h.gives W (comes_before N T W gt c) A t in
      let qs : R.parameters l ≡ [] = c.lists l [] list in
      let G = binds_onto [] ys A.known in
      let same : S.next ≤ S.next = omega arith in
      let f = b.elab S.next same in
      let known : Binds A S.next f.next A.known G (bound_of W bs) (scope_of bs) =
      subst (λ s. Binds A S.next f.next A.known G (bound_of W bs) s) b.scope
      (subst (λ v. Binds A S.next f.next A.known G v (all_plus b.scopes)) b.bound (binds-known f.elab A.known)) in
      let d : AreDistinct (bound_in (bound_of W bs)) = ap (distinct same_vid) (vids-bound W bs) ∙ once in
      let tree-is : decs_of (map (dec_of R) (dec ∷ [])) ≡ prog.val_dec [] ys prog.no_funs prog.no_decs =
      ap (λ z. decs_of (z ∷ []))
      (ap (dec_of R) ex ∙ dec_of-Val R l binds none
      ∙ ap₂ (λ (ps : List Quantified) (fs : List (Vec ℕ Global × ℕ × Function)). Rattle.prog_tree.specs.TreeOf.val_tree ps ys (funs_by R.type (map (fun_of R) fs))) qs nothing) in
      subst (λ z. ElaboratesDec W A S.next (bare.val_dec p q [] (binds_of rs) bare.no_binds) z D T.next) (sym tree-is)
      (record {
        made = 0;
        number = A.number;
        env = kept_values (generals [] (bound_of W bs));
        scope = scope_of bs;
        known = G;
        choices = both (bind_choices (generic A).env rs b.choices) no_choice;
        elab = λ i le.
            subst (λ z. DecUpTo W.table A i (bare.val_dec p q [] (binds_of rs) bare.no_binds) (prog.val_dec [] ys prog.no_funs prog.no_decs) 0 A.number
            (kept_values (generals [] (bound_of W bs))) (scope_of bs) G (both (bind_choices (generic A).env rs b.choices) no_choice) z) (sym nx)
            (dec-made W A S.next N.next p q rs xs bs t.over once b i le);
        tells =
            subst (λ z. Tells z W (after A 0 A.number (kept_values (generals [] (bound_of W bs))) (scope_of bs) G)) (sym is)
            (tells_further C W A (plain_entries l bs) (generals [] (bound_of W bs)) (scope_of bs) G t
            (plain_further C W A l bs S.next f.next G qs d known b.used ic.numbered (λ x e m v k s. t.known x e m v k s)));
      });
}

-- one variable more in scope

with-snoc : (s : VidScope Entry) (es : List (Vid × Entry)) (e : Vid × Entry) → with_entries s (es ++ e ∷ []) ≡ with_entry (with_entries s es) e.0 e.1
with-snoc s [] e = refl
with-snoc s (d ∷ es) e = with-snoc (with_entry s d.0 d.1) es e

pub plain-next : (C : Context) (l : ℕ) (bs : List BoundVariable) (i : ℕ) (b : BoundVariable) (old new : Context) (s : VidScope Entry) → i < length bs → b ≡ get_or bs i b
    → old ≡ with_all C (plain_entries l (take i bs)) → s ≡ with_entry old.values b.vid (General l b.ty b.number false) → new ≡ record old { values = s }
    → new ≡ with_all C (plain_entries l (take (i + 1) bs))
plain-next C l bs i b old new s lt is e q n =
    let up : ℕ.suc i ≡ i + 1 = omega arith in
    n ∙ ap₂ (λ (k : Context) (v : VidScope Entry). record k { values = v }) e (q ∙ ap (λ (k : Context). with_entry k.values b.vid (General l b.ty b.number false)) e)
    ∙ ap (λ (v : VidScope Entry). record C { values = v })
    (sym (with-snoc C.values (plain_entries l (take i bs)) (b.vid, General l b.ty b.number false))
    ∙ ap (with_entries C.values) (sym (map-append (λ (b : BoundVariable). (b.vid, General l b.ty b.number false)) (take i bs) (b ∷ [])))
    ∙ ap (λ z. with_entries C.values (plain_entries l z)) (ap (λ (z : BoundVariable). take i bs ++ z ∷ []) is ∙ sym (take-suc bs i b lt) ∙ ap (λ j. take j bs) up))

-- all that is in scope

each-plain : (P : Entry → Type 0) (l : ℕ) (bs : List BoundVariable) → AllByRecursion (λ b. P (General l b.ty b.number false)) bs
    → AllByRecursion (λ (e : Vid × Entry). P e.1) (plain_entries l bs)
each-plain P l [] h = tt
each-plain P l (b ∷ bs) h = (h.0, each-plain P l bs h.1)

list-held : (T : State) (l : ℕ) → slice_get (parameters_of T.tables) l ≡ Some [] → HasList T l
list-held T l e = record {
  held = slice_get_within (parameters_of T.tables) l [] e;
  inhabited = subst (AllByRecursion (λ (q : Quantified). is_inhabited q.mark ≡ true)) (sym (get_or_from_slice_get (parameters_of T.tables) l [] [] e)) tt;
}

pub context_declared : (S T : State) (C D : Context) (l : ℕ) (bs : List BoundVariable) → Grows S T → IsContext S C → AreVariables S bs
    → slice_get (parameters_of T.tables) l ≡ Some [] → D ≡ with_all C (plain_entries l bs) → IsContext T D
context_declared S T C D l bs g i h e q =
    context_with T C D (plain_entries l bs) (context_later S T C g i) (each-plain (IsHeld T C) l bs (held bs (all-later S T g bs h)))
    (each-plain (IsBelowIf T.next) l bs (below bs (all-later S T g bs h))) q
  where
    held : (bs : List BoundVariable) → AreVariables T bs → AllByRecursion (λ b. IsHeld T C (General l b.ty b.number false)) bs
    held [] h = tt
    held (b ∷ bs) h = ((general-type T (parameters_at (parameters_of T.tables) l) b.ty h.0.is, list-held T l e), held bs h.1)

    below : (bs : List BoundVariable) → AreVariables T bs → AllByRecursion (λ b. IsBelowIf T.next (General l b.ty b.number false)) bs
    below [] h = tt
    below (b ∷ bs) h = ((λ n q. let same : b.number ≡ n = cc in let lt = h.0.below in omega (arith, same, lt)), below bs h.1)

-- a list of parameters more

pub record Listed (S T : State) (qs : Vec Quantified Global) : Type 0 where
  pub solver : T.solver ≡ S.solver
  pub written : T.written.items ≡ S.written.items
  pub namings : T.namings.items ≡ S.namings.items
  pub types : T.tables.types ≡ S.tables.types
  pub constructors : T.tables.constructors ≡ S.tables.constructors
  pub lists : T.tables.parameters.items ≡ S.tables.parameters.items ++ qs ∷ []
  pub strings : T.tables.strings ≡ S.tables.strings
  pub next : T.next ≡ S.next
  pub level : T.level ≡ S.level
  pub none : qs.items ≡ []

-- nothing was generalised
general-none : (pss : List (Vec Quantified Global)) (qs : Vec Quantified Global) (x : ℕ) → qs.items ≡ []
    → in_scope (all_parameters (map (λ p. p.items) (pss ++ qs ∷ []))) x ≡ in_scope (all_parameters (map (λ p. p.items) pss)) x
general-none [] qs x e = ap (λ (l : List Quantified). in_scope (l ++ []) x) e
general-none (p ∷ pss) qs x e = by p.items (general-none pss qs x e)
  where
    by : (ps : List Quantified) → in_scope (all_parameters (map (λ p. p.items) (pss ++ qs ∷ []))) x ≡ in_scope (all_parameters (map (λ p. p.items) pss)) x
        → in_scope (ps ++ all_parameters (map (λ p. p.items) (pss ++ qs ∷ []))) x ≡ in_scope (ps ++ all_parameters (map (λ p. p.items) pss)) x
    by [] h = h
    by (q ∷ ps) h = ap (λ b. nat_eq q.variable x || b) (by ps h)

listed-makes : (S T : State) (qs : Vec Quantified Global) → Listed S T qs → Makes S T
listed-makes S T qs h =
    solver-makes S T h.solver
    (λ x. ap (λ (l : List (Vec Quantified Global)). in_scope (all_parameters (map (λ p. p.items) l)) x) h.lists ∙ general-none S.tables.parameters.items qs x h.none) h.level

begins-map : {A B : Type 0} (f : A → B) (xs ys : List A) → Begins xs ys → Begins (map f xs) (map f ys)
begins-map f [] ys e = refl
begins-map f (x ∷ xs) [] e = cc
begins-map f (x ∷ xs) (y ∷ ys) e = let p : y ≡ x = cc in let q : take (length xs) ys ≡ xs = cc in ap₂ (λ a l. a ∷ l) (ap f p) (begins-map f xs ys q)

pub listed_grows : (S T : State) (qs : Vec Quantified Global) → Listed S T qs → Grows S T
listed_grows S T qs h = record {
  types = begins-same _ _ (ap (λ s. s.subst.types) h.solver);
  written = begins-same _ _ h.written;
  namings = begins-same _ _ h.namings;
  lists = begins-map (λ p. p.items) S.tables.parameters.items T.tables.parameters.items (begins-more _ (qs ∷ []) _ h.lists);
  strings = begins-same _ _ (ap (λ v. map (λ p. p.items) v.items) h.strings);
  rows = λ y c row e. ap₂ (λ ts ks. find (constructors_at ts ks) y c) h.types h.constructors ∙ e;
  variables = let e : made T ≡ made S = ap (λ s. length s.subst.slots.items) h.solver in omega (arith, e);
  solves = λ m f s. subst (λ x. Solves m f (said x.subst)) h.solver s;
  limits = λ v lt. same-limit (limit_in T v) (limit_in S v) (ap (λ s. limit_at s.limits.items v) h.solver);
  next = let e = h.next in omega (arith, e);
  level = h.level;
  done = makes-done S T (listed-makes S T qs h);
  tidy = makes-tidy S T (listed-makes S T qs h);
  constructors = constructors-stay S T h.types h.constructors;
}

pub listed_is : (old new : List (Vec Quantified Global)) (qs : Vec Quantified Global) (n : ℕ) → new ≡ old ++ qs ∷ [] → qs.items ≡ [] → n ≡ length old
    → slice_get (map (λ (v : Vec Quantified Global). v.items) new) n ≡ Some []
listed_is old new qs n p e l = ap₂ (λ (ps : List (Vec Quantified Global)) k. slice_get (map (λ (v : Vec Quantified Global). v.items) ps) k) p l ∙ last old
  where
    last : (ps : List (Vec Quantified Global)) → slice_get (map (λ (v : Vec Quantified Global). v.items) (ps ++ qs ∷ [])) (length ps) ≡ Some []
    last [] = ap Some e
    last (p ∷ ps) = last ps
