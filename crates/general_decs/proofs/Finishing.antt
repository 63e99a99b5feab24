-- The end of a declaration that generalises, as the code makes it.
use Rattle.std.proofs.Common.{◌≡◌, ◌<◌, ◌-◌, ℕ, zero, suc, Bool, true, List, [], ◌∷◌, ◌++◌, length, Some, slice_get, Vec, Global, refl, sym, ap, subst, arith}
use Rattle.std.specs.List.{AllByRecursion}
use Rattle.mlc_base.specs.declared.place.Place.{Place}
use Rattle.ty_core.specs.Marks.{is_inhabited}
use Rattle.ty_core.specs.declared.scheme.Quantified.{Quantified}
use Rattle.ty_table.specs.TypeAt.{type_at}
use Rattle.ty_solve.specs.Substitution.{is_below}
use Rattle.sml_tree.specs.BareTree as bare
use Rattle.sml_tree.specs.TreeOf.{RuleOf, binds_of}
use Rattle.sml_tree.specs.declared.ident.Tyvar.{Tyvar}
use Rattle.sml_tree.specs.declared.ident.Vid.{Vid}
use Rattle.core_rules.specs.Restrictions.{distinct}
use Rattle.core_rules.specs.Words.{same_vid}
use Rattle.ir_tables.specs.Tables.{parameters_at, parameters_of}
use Rattle.prog_tree.specs.declared.tree.Binding.{Binding}
use Rattle.prog_tree.specs.declared.tree.Dec.TheVariants as decs
use Rattle.prog_tree.specs.declared.tree.Function.{Function}
use Rattle.prog_tree.specs.declared.tree.Rule.{Rule}
use Rattle.elab_state.specs.States.{dead_level, made, types_in}
use Rattle.elab_state.specs.declared.state.State.{State}
use Rattle.elab_state.proofs.Reading.{parameters-stay}
use Rattle.elab_steps.specs.Growing.{Grows, HasGeneral}
use Rattle.elab_steps.proofs.Growing.{general_later, grows_on}
use Rattle.elab_context.specs.Telling.{HasList, IsContext, IsHeld}
use Rattle.elab_context.specs.declared.context.Context.{Context}
use Rattle.elab_context.specs.declared.entry.Entry.{Entry}
use Rattle.elab_context.proofs.Reading.{context_later}
use Rattle.rec_groups.specs.of_pat_elab.Elaborated.{AreVariables}
use Rattle.rec_groups.specs.of_pat_elab.declared.bound.BoundVariable.{BoundVariable}
use Rattle.rec_groups.specs.of_exp_forms.Rules.{vids_of}
use Rattle.rec_groups.proofs.of_exp_forms.Entering.{context_with}
use Rattle.elab_steps.specs.Tidy.{IsTidy}
use Rattle.general_vals.specs.of_general_worlds.Tidy.{Ends}
use Rattle.general_vals.proofs.of_general_worlds.Declaring.{declaration-grows}
use Rattle.general_vals.proofs.Settling.{settled-held}
use Rattle.rec_groups.specs.of_dec_forms.Bringing.{IsBringing}
use Rattle.rec_groups.specs.of_dec_forms.Telling.{with_all}
use Rattle.rec_groups.specs.of_dec_forms.declared.brought.Brought.{Brought}
use Rattle.general_decs.specs.Entries.{AreMade, AreShown, has_some}
use Rattle.general_decs.specs.Whole.{IsDeclared}
use Rattle.general_decs.specs.Scoped.{IsBegun, IsLedBy, ScopesThese}
use Rattle.general_decs.proofs.Declaring.{below-shown, general_brings}
use Rattle.general_decs.proofs.Functions.{declared-grows, declared-have}
use Rattle.general_decs.proofs.Leading.{longer}

found-at : (ps : List (List Quantified)) (k : ℕ) → k < length ps → slice_get ps k ≡ Some (parameters_at ps k)
found-at [] k lt = absurd (omega (arith, lt))
found-at (p ∷ ps) zero lt = refl
found-at (p ∷ ps) (suc k) lt = found-at ps k (omega (arith, lt))

-- the declaration is one deeper
level-is : (S M : State) (C D : Context) (scoped : List Tyvar) (l : ℕ) → IsBegun S C scoped M D → l ≡ D.level - 1 → l ≡ C.level
level-is S M C D scoped l b e = let q : D.level ≡ suc C.level = ap (λ (k : Context). k.level) b.deep in omega (arith, e, q)

low-is : (l n : ℕ) → n < dead_level → 0 < n → l ≡ n - 1 → l < dead_level
low-is l n lt pos e = omega (arith, lt, pos, e)

-- where the declaration ended, the types of what was bound are there
pub made-ended : (l : ℕ) (qs : List Quantified) (N E : State) (bs : List BoundVariable) → Ends l qs N E → AreVariables N bs → AreMade E bs
made-ended l qs N E [] e h = tt
made-ended l qs N E (b ∷ bs) e h = (
  record {
    held = subst (λ ts. b.ty < length ts) (sym e.types) h.0.is.held;
    below =
        subst (λ n. is_below n (type_at (types_in E) b.ty) ≡ true) (sym e.made) (subst (λ ts. is_below (made N) (type_at ts b.ty) ≡ true) (sym e.types) h.0.is.below);
  },
  made-ended l qs N E bs e h.1,
)

module _ (S M N E T : State) (C D : Context) (scoped : List Tyvar) (rs gs : List RuleOf) (bs : List BoundVariable) (fs : List Bool) (es : List (Vid × Entry)) (binds : Vec (Binding × Rule) Global)
    (funs : Vec (Vec ℕ Global × ℕ × Function) Global)
    (list l first : ℕ) (some : Bool) (level : N.level ≡ D.level) (is : l ≡ D.level - 1) (low : D.level < dead_level) (pos : 0 < D.level) (begun : IsBegun S C scoped M D) (h : IsDeclared M C D.types rs gs N bs fs binds.items funs.items)
    (ends : Ends l (parameters_at (parameters_of E.tables) list) N E) (held : HasList E list) (tidy : IsTidy E l) (begins : first ≡ made S) (i : IsContext S C) (et : Grows E T)
    (shown : AreShown E T l list some bs fs es) where
  abbrev qs : List Quantified
  qs = parameters_at (parameters_of E.tables) list

  same : l ≡ C.level
  same = level-is S M C D scoped l begun is

  deep : C.level < dead_level
  deep = subst (λ n. n < dead_level) same (low-is l D.level low pos is)

  ends-here : Ends C.level qs N E
  ends-here = subst (λ n. Ends n qs N E) same ends

  inside-grows : Grows M N
  inside-grows = declared-grows M N C D.types rs gs bs fs binds.items funs.items h

  have : AreVariables N bs
  have = declared-have M N C D.types rs gs bs fs binds.items funs.items h

  level-here : S.level ≡ C.level
  level-here =
      let d : D.level ≡ suc C.level = ap (λ (k : Context). k.level) begun.deep in
      let a = begun.enters.level in
      let b = begun.grows.level in
      let g = inside-grows.level in
      omega (arith, d, a, b, g, level)

  tidy-before : IsTidy S C.level
  tidy-before = subst (IsTidy S) level-here i.tidy

  tidy-here : IsTidy E C.level
  tidy-here = subst (IsTidy E) same tidy

  shown-here : AreShown E T C.level list some bs fs es
  shown-here = subst (λ n. AreShown E T n list some bs fs es) same shown

  grows : Grows S T
  grows = grows_on S E T (declaration-grows C.level qs S begun.entered N E begun.enters (grows_on begun.entered M N begun.grows inside-grows) ends-here tidy-before tidy-here) et

  pub finish_brings : (F : Context) (p q : Place) (as_ : List Tyvar) (old new : Brought) → IsLedBy first scoped qs → ScopesThese C as_ (binds_of rs) (binds_of gs) scoped
      → distinct same_vid (vids_of bs) ≡ true → some ≡ has_some qs → F ≡ with_all C es → new.values.items ≡ old.values.items ++ es → new.types.items ≡ old.types.items
      → IsBringing S C (bare.val_dec p q as_ (binds_of rs) (binds_of gs)) T F (decs.Val list binds funs ∷ []) old new
  finish_brings F p q as_ old new led scopes once some-is f ev tv =
      general_brings S M N E T C D p q as_ scoped rs gs bs fs es binds.items funs.items qs led.rest list deep low begun h ends-here tidy-before tidy-here
      (subst (λ v. qs ≡ Rattle.general_decs.specs.Scoped.tyvar_parameters v scoped ++ led.rest) begins led.is) (found-at (parameters_of E.tables) list held.held) scopes once et
      (subst (λ b. AreShown E T C.level list b bs fs es) some-is shown-here) binds funs (decs.Val list binds funs) refl refl refl F old new f ev tv

  -- the list is there later
  list-later : HasList T list
  list-later = record {
    held = let a = longer (parameters_of E.tables) (parameters_of T.tables) et.lists in let b = held.held in omega (arith, a, b);
    inhabited =
        subst (AllByRecursion (λ (q : Quantified). is_inhabited q.mark ≡ true)) (sym (parameters-stay (parameters_of E.tables) (parameters_of T.tables) list et.lists held.held)) held.inhabited;
  }

  held-shown : (bs : List BoundVariable) (fs : List Bool) (es : List (Vid × Entry)) → AreVariables N bs → AreShown E T l list some bs fs es
      → AllByRecursion (λ (e : Vid × Entry). IsHeld T C e.1) es
  held-shown [] [] [] v k = tt
  held-shown [] [] (e ∷ es) v k = absurd k
  held-shown [] (f ∷ fs) es v k = absurd k
  held-shown (b ∷ bs) [] es v k = absurd k
  held-shown (b ∷ bs) (f ∷ fs) [] v k = absurd k
  held-shown (b ∷ bs) (f ∷ fs) (e ∷ es) v k =
      let s = k.0.settled in
      let g : HasGeneral s.at qs k.0.ty = settled-held l qs N E s.from s.at b.ty k.0.ty ends v.0.is s.keeps s.settles s.resolved in (
        subst (IsHeld T C) (sym k.0.is) (
          subst (λ (ps : List Quantified). HasGeneral T ps k.0.ty) (sym (parameters-stay (parameters_of E.tables) (parameters_of T.tables) list et.lists held.held))
              (general_later s.at T qs k.0.ty s.before g),
          list-later,
        ),
        held-shown bs fs es v.1 k.1,
      )

  pub finish_context : (F : Context) → F ≡ with_all C es → IsContext T F
  finish_context F q =
      context_with T C F es (context_later S T C grows i) (held-shown bs fs es have shown)
      (below-shown T.next E N T l list some bs fs es (let a = ends.next in let b = et.next in omega (arith, a, b)) have shown) q
