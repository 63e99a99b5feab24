-- The variables of a declaration in scope.
use Rattle.std.proofs.Common.{◌≡◌, ◌<◌, ◌&&◌, ℕ, Bool, true, false, cond, List, [], ◌∷◌, ◌++◌, Option, Some, None, refl, sym, ap, ap₂, subst, ◌∙◌}
use Rattle.std.specs.Prelude.{option_map}
use Rattle.std.specs.Option.{option_or}
use Rattle.std.specs.List.{AllByRecursion, list_all}
use Rattle.std.specs.Map.{lookup}
use Rattle.ty_core.specs.Types.{Typ, var}
use Rattle.ty_core.specs.declared.scheme.Quantified.{Quantified}
use Rattle.sml_tree.specs.declared.ident.Vid.{Vid}
use Rattle.core_rules.specs.Objects.{Map, Over}
use Rattle.core_rules.specs.Restrictions.{distinct}
use Rattle.core_rules.specs.Words.{same_vid}
use Rattle.ir_poly.specs.TestsChecked.{Known, Knowns}
use Rattle.ir_poly.specs.TestsChecked as checked
use Rattle.ir_poly.specs.Types.{are_new, in_scope, over}
use Rattle.ir_tables.specs.Tables.{parameters_of}
use Rattle.core_elab.specs.Scopes.{Scope, denotes_in, inside_in, plus_scope, typed_in, variable}
use Rattle.elab_typed.specs.Contexts.{Around, general, generals}
use Rattle.elab_typed.specs.Numbers.{type_as}
use Rattle.elab_state.specs.States.{dead_level, general_in}
use Rattle.elab_state.specs.declared.state.State.{State}
use Rattle.elab_state.proofs.Generalising.{scope-behind}
use Rattle.elab_state.proofs.Solving.{over-more}
use Rattle.elab_steps.specs.World.{World, type_of, Comes}
use Rattle.elab_steps.proofs.Growing.{comes_before, general-later}
use Rattle.elab_context.specs.Numbered.{IsNumbered}
use Rattle.elab_context.specs.Telling.{IsFit, IsGeneral, IsInUse, Tells, kept_of, denotes_of, known_of, kept_entries, vids_in}
use Rattle.elab_context.specs.declared.context.Context.{Context}
use Rattle.elab_context.specs.declared.entry.Entry.{Entry}
use Rattle.elab_context.specs.declared.entry.Entry.TheVariants.{General}
use Rattle.rec_groups.specs.of_pat_elab.Elaborated.{AreVariables, HasVariable, bound_of}
use Rattle.rec_groups.specs.of_pat_elab.declared.bound.BoundVariable.{BoundVariable}
use Rattle.rec_groups.specs.of_exp_forms.Rules.{vids_of}
use Rattle.rec_groups.proofs.of_exp_forms.Entering.{number-known}
use Rattle.rec_groups.proofs.of_exp_forms.Within.{latest}
use Rattle.general_vals.proofs.of_general_worlds.General.{open-general}
use Rattle.general_vals.specs.of_general_worlds.Tidy.{Ends}
use Rattle.general_vals.proofs.Settling.{settled-held}
use Rattle.elab_context.specs.Entries.{last_of}
use Rattle.rec_groups.proofs.of_dec_forms.Listed.{kept-listed, last-among, last-first}
use Rattle.rec_groups.proofs.of_dec_forms.Over.{generals-same}
use Rattle.rec_groups.proofs.of_dec_forms.Telling.{AreFurther}
use Rattle.general_decs.specs.Entries.{AreShown, IsShown, has_some}
use Rattle.general_decs.specs.Inside.{AllFlagged, IsUsedAs, inside_of}
use Rattle.general_decs.proofs.Groups.{AreKnownAs, known_as}
use Rattle.general_decs.proofs.Marks.{IsMarked}

-- lists side by side

module _ (S T : State) (l list : ℕ) (some : Bool) where
  pub vids-shown : (bs : List BoundVariable) (fs : List Bool) (es : List (Vid × Entry)) → AreShown S T l list some bs fs es → vids_in es ≡ vids_of bs
  vids-shown [] [] [] h = refl
  vids-shown [] [] (e ∷ es) h = absurd h
  vids-shown [] (f ∷ fs) es h = absurd h
  vids-shown (b ∷ bs) [] es h = absurd h
  vids-shown (b ∷ bs) (f ∷ fs) [] h = absurd h
  vids-shown (b ∷ bs) (f ∷ fs) (e ∷ es) h = ap₂ (λ x l. x ∷ l) h.0.vid (vids-shown bs fs es h.1)

  -- what an identifier denotes
  last-shown : (x : Vid) (bs : List BoundVariable) (fs : List Bool) (es : List (Vid × Entry)) → AreShown S T l list some bs fs es
      → option_map denotes_of (last_of es x) ≡ option_map (λ b. variable b.number) (latest bs x)
  last-shown x [] [] [] h = refl
  last-shown x [] [] (e ∷ es) h = absurd h
  last-shown x [] (f ∷ fs) es h = absurd h
  last-shown x (b ∷ bs) [] es h = absurd h
  last-shown x (b ∷ bs) (f ∷ fs) [] h = absurd h
  last-shown x (b ∷ bs) (f ∷ fs) (e ∷ es) h =
      by (last_of es x) (latest bs x) (same_vid x e.0) (same_vid x b.vid) (ap (same_vid x) h.0.vid) (ap denotes_of h.0.is) (last-shown x bs fs es h.1)
    where
      by : (o : Option Entry) (p : Option BoundVariable) (c d : Bool) → c ≡ d → denotes_of e.1 ≡ variable b.number
          → option_map denotes_of o ≡ option_map (λ (b : BoundVariable). variable b.number) p
          → option_map denotes_of (option_or o (cond c (Some e.1) None)) ≡ option_map (λ (b : BoundVariable). variable b.number) (option_or p (cond d (Some b) None))
      by None None true true q n k = ap Some n
      by None None false false q n k = refl
      by None None true false q n k = cc
      by None None false true q n k = cc
      by (Some o) None c d q n k = cc
      by None (Some p) c d q n k = cc
      by (Some o) (Some p) c d q n k = k

-- in a world

module _ (C : Context) (W : World) (A : Around) (S T : State) (qs : List Quantified) (m : Map ℕ Typ) (list : ℕ) (t : Tells C W A) (c : Comes T W) (deep : C.level < dead_level)
    (new : are_new qs [] ≡ true) (N : State) (ends : Ends C.level qs N S) (ended : (v : ℕ) → in_scope qs v ≡ true → in_scope (general_in S) v ≡ true) (is : W.reading.parameters list ≡ qs) where
  abbrev some : Bool
  some = has_some qs

  abbrev B : Around
  B = inside_of A m qs

  over-inside : (f : Bool) (u : Typ) → IsInUse (cond f B A) u → over (qs ++ A.parameters) u ≡ true
  over-inside true u h = h.parameters
  over-inside false u h = over-more A.parameters (qs ++ A.parameters) (λ v. scope-behind qs A.parameters v) u h.parameters

  names-inside : (f : Bool) (u : Typ) → IsInUse (cond f B A) u → Over A.names u
  names-inside true u h = h.names
  names-inside false u h = h.names

  -- where it isn't over the list
  over-outside : (ps : List Quantified) (f : Bool) (u : Typ) → ps ≡ qs → IsInUse (cond f B A) u → (f && has_some ps) ≡ false → over A.parameters u ≡ true
  over-outside [] true u e h n = ap (λ l. over (l ++ A.parameters) u) e ∙ h.parameters
  over-outside (p ∷ ps) true u e h n = cc
  over-outside ps false u e h n = h.parameters

  fit-shown : (b : BoundVariable) (f : Bool) (e : Vid × Entry) → HasVariable N b → IsShown S T C.level list some b f e → IsUsedAs W A B b f → IsFit C W A e.1
  fit-shown b f e v h u =
      let s = h.settled in
      let cs = comes_before s.at T W s.before c in
      let same : type_of W h.ty ≡ type_of W b.ty = s.same W cs in
      let used : IsInUse (cond f B A) (type_of W h.ty) = subst (IsInUse (cond f B A)) (sym same) u in
      subst (IsFit C W A) (sym h.is)
      (subst (λ ps. IsGeneral W A ps h.ty (f && some)) (sym is)
      (open-general C.level qs s.at deep s.tidy new
      (λ x i. general-later (parameters_of S.tables) (parameters_of s.at.tables) x s.after.lists (ended x i)) W cs A t.parameters h.ty (settled-held C.level qs N S s.from s.at b.ty h.ty ends v.is s.keeps s.settles s.resolved) s.resolved
      (names-inside f (type_of W h.ty) used) (over-inside f (type_of W h.ty) used) (f && some) (over-outside qs f (type_of W h.ty) refl used)))

  pub fits-shown : (bs : List BoundVariable) (fs : List Bool) (es : List (Vid × Entry)) → AreVariables N bs → AreShown S T C.level list some bs fs es → AllFlagged (IsUsedAs W A B) bs fs
      → AllByRecursion (λ e. IsFit C W A e.1) es
  fits-shown [] [] [] v h u = tt
  fits-shown [] [] (e ∷ es) v h u = absurd h
  fits-shown [] (f ∷ fs) es v h u = absurd h
  fits-shown (b ∷ bs) [] es v h u = absurd h
  fits-shown (b ∷ bs) (f ∷ fs) [] v h u = absurd h
  fits-shown (b ∷ bs) (f ∷ fs) (e ∷ es) v h u = (fit-shown b f e v.0 h.0 u.0, fits-shown bs fs es v.1 h.1 u.1)

  -- what is known of the variable
  known-of : (ps : List Quantified) (f : Bool) (ty n : ℕ) → W.reading.parameters list ≡ ps
      → known_of W A (General list ty n (f && has_some ps)) ≡ Some (n, known_as ps f (type_as A.number (type_of W ty)))
  known-of [] true ty n e = refl
  known-of [] false ty n e = refl
  known-of (p ∷ ps) true ty n e = ap (λ qs. Some (n, checked.general qs var (type_as A.number (type_of W ty)))) e
  known-of (p ∷ ps) false ty n e = refl

  abbrev IsNew : Knowns → Entry → Type 0
  IsNew G e = (n : ℕ) (v : Known) → known_of W A e ≡ Some (n, v) → checked.at G n ≡ Some v

  new-shown : (k j : ℕ) (G : Knowns) (b : BoundVariable) (f : Bool) (e : Vid × Entry) → IsShown S T C.level list some b f e → IsMarked (type_of W) A.number k j G (known_as qs f) b → IsNew G e.1
  new-shown k j G b f e h r n v q =
      let s = h.settled in
      let same : type_of W h.ty ≡ type_of W b.ty = s.same W (comes_before s.at T W s.before c) in
      let pair : Some (b.number, known_as qs f (type_as A.number (type_of W h.ty))) ≡ Some (n, v) =
      sym (known-of qs f h.ty b.number is) ∙ ap (known_of W A) (sym h.is) ∙ q in
      let inner : (b.number, known_as qs f (type_as A.number (type_of W h.ty))) ≡ (n, v) = cc in
      subst (λ i. checked.at G i ≡ Some v) (ap (λ (z : ℕ × Known). z.0) inner)
      (r.known ∙ ap (λ u. Some (known_as qs f (type_as A.number u))) (sym same) ∙ ap Some (ap (λ (z : ℕ × Known). z.1) inner))

  pub news-shown : (k j : ℕ) (G : Knowns) (bs : List BoundVariable) (fs : List Bool) (es : List (Vid × Entry)) → AreShown S T C.level list some bs fs es
      → AllFlagged (λ b f. IsMarked (type_of W) A.number k j G (known_as qs f) b) bs fs → AllByRecursion (λ e. IsNew G e.1) es
  news-shown k j G [] [] [] h r = tt
  news-shown k j G [] [] (e ∷ es) h r = absurd h
  news-shown k j G [] (f ∷ fs) es h r = absurd h
  news-shown k j G (b ∷ bs) [] es h r = absurd h
  news-shown k j G (b ∷ bs) (f ∷ fs) [] h r = absurd h
  news-shown k j G (b ∷ bs) (f ∷ fs) (e ∷ es) h r = (new-shown k j G b f e h.0 r.0, news-shown k j G bs fs es h.1 r.1)

  -- what is kept of them
  kept-shown : (bs : List BoundVariable) (fs : List Bool) (es : List (Vid × Entry)) → AreShown S T C.level list some bs fs es → generals qs (bound_of W bs) ≡ kept_entries C W es
  kept-shown [] [] [] h = refl
  kept-shown [] [] (e ∷ es) h = absurd h
  kept-shown [] (f ∷ fs) es h = absurd h
  kept-shown (b ∷ bs) [] es h = absurd h
  kept-shown (b ∷ bs) (f ∷ fs) [] h = absurd h
  kept-shown (b ∷ bs) (f ∷ fs) (e ∷ es) h =
      let s = h.0.settled in
      let same : type_of W h.0.ty ≡ type_of W b.ty = s.same W (comes_before s.at T W s.before c) in
      let one : general qs (type_of W b.ty) ≡ kept_of C W e.1 = ap₂ general (sym is) (sym same) ∙ ap (kept_of C W) (sym h.0.is) in
      ap₂ (λ v l. v ∷ l) (ap₂ (λ (x : Vid) (k : Rattle.elab_typed.specs.Contexts.Kept). (x, k)) (sym h.0.vid) one) (kept-shown bs fs es h.1)

  all-over-inside : (bs : List BoundVariable) (fs : List Bool) → AllFlagged (IsUsedAs W A B) bs fs → list_all (λ (b : Vid × Typ). over (qs ++ A.parameters) b.1) (bound_of W bs) ≡ true
  all-over-inside [] [] u = refl
  all-over-inside [] (f ∷ fs) u = refl
  all-over-inside (b ∷ bs) [] u = absurd u
  all-over-inside (b ∷ bs) (f ∷ fs) u = ap₂ (λ x y. x && y) (over-inside f (type_of W b.ty) u.0) (all-over-inside bs fs u.1)

  pub further-shown : (k j : ℕ) (G : Knowns) (q : Scope) (bs : List BoundVariable) (fs : List Bool) (es : List (Vid × Entry))
      → ((s : Scope) (x : Vid) → denotes_in (plus_scope s q) x ≡ option_or (option_map (λ b. variable b.number) (latest bs x)) (denotes_in s x))
      → ((s : Scope) (x : ℕ) → inside_in (plus_scope s q) x ≡ inside_in s x) → ((s : Scope) (x : ℕ) → typed_in (plus_scope s q) x ≡ typed_in s x)
      → AreVariables N bs → AreShown S T C.level list some bs fs es → AllFlagged (IsUsedAs W A B) bs fs → distinct same_vid (vids_of bs) ≡ true → AreKnownAs (type_of W) A.number qs k j A.known G bs fs → IsNumbered k C
      → AreFurther C W A es (generals qs (bound_of W bs)) q G
  further-shown k j G q bs fs es denotes alone untyped v h u d r n =
      let once : distinct same_vid (vids_in es) ≡ true = ap (distinct same_vid) (vids-shown S T C.level list some bs fs es h) ∙ d in
      record {
        kept = λ x.
            ap (lookup (same_vid x)) (kept-shown bs fs es h) ∙ kept-listed C W es x ∙ ap (option_map (kept_of C W)) (sym (last-first es x once));
        denotes = λ s x. denotes s x ∙ ap (λ o. option_or o (denotes_in s x)) (sym (last-shown S T C.level list some x bs fs es h));
        alone = alone;
        untyped = untyped;
        fit = λ x e q. last-among (IsFit C W A) es x e (fits-shown bs fs es v h u) q;
        new = λ x e i w q s. last-among (IsNew G) es x e (news-shown k j G bs fs es h r.known) q i w s;
        over = λ s f a. generals-same qs A.parameters (bound_of W bs) s f (all-over-inside bs fs u) a;
        old = λ x e i v q s. r.older i (n x.qualifiers x.vid e q i (number-known W A e i v s)) ∙ t.known x e i v q s;
      }
