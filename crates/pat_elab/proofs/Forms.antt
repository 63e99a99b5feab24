-- Patterns made of parts.
use Rattle.std.proofs.Common.{◌≡◌, suc, true, List, [], ◌∷◌, ◌++◌, Box, Global, Option, refl, sym, ap, subst, ◌∙◌, arith}
use Rattle.std.proofs.lemmas.List.{append_assoc}
use Rattle.mlc_base.specs.declared.place.Place.{Place}
use Rattle.sml_tree.specs.Derived.{short}
use Rattle.sml_tree.specs.BareTree as bare
use Rattle.sml_tree.specs.declared.ident.Vid.{Vid}
use Rattle.core_rules.specs.Choices.{no_choice}
use Rattle.ir_poly.specs.Prog as prog
use Rattle.ir_poly.specs.Types.{over}
use Rattle.core_elab.specs.Scopes.{Scope, empty, scoped, plus_scope, variable}
use Rattle.prog_tree.specs.TreeOf.{pat_of}
use Rattle.prog_tree.specs.declared.tree.Pat.{Pat}
use Rattle.prog_tree.specs.declared.tree.Pat.TheVariants as tree
use Rattle.elab_context.specs.of_elab_typed.Elaborates.{PatElab, variable_elab, typed_elab, as_elab}
use Rattle.elab_context.specs.of_elab_steps.Growing.{HasType, Grows, Always}
use Rattle.elab_context.specs.of_elab_state.declared.state.State.{State}
use Rattle.elab_context.specs.of_elab_steps.World.{type_of}
use Rattle.elab_context.proofs.of_elab_steps.Growing.{grows_on, type_later, comes_before}
use Rattle.elab_context.specs.declared.context.Context.{Context}
use Rattle.pat_elab.proofs.Trees.{pat_of-Variable, pat_of-As}
use Rattle.pat_elab.specs.Elaborated.{bound_of, scope_of, scope_onto, AreVariables, HasVariable, IsBound, IsAnnotated, IsAnnotatedIf, IsPat}
use Rattle.pat_elab.specs.declared.bound.BoundVariable.{BoundVariable}
use Rattle.pat_elab.specs.declared.bound.TypedPat.{TypedPat}

-- what is bound stays so
variable-later : (S T : State) (b : BoundVariable) → Grows S T → HasVariable S b → HasVariable T b
variable-later S T b g h = record { is = type_later S T b.ty g h.is; below = let lt = h.below in let le = g.next in omega (arith, lt, le) }

pub all-later : (S T : State) → Grows S T → (bs : List BoundVariable) → AreVariables S bs → AreVariables T bs
all-later S T g [] h = tt
all-later S T g (b ∷ bs) h = (variable-later S T b g h.0, all-later S T g bs h.1)

-- what a pattern binds is the state's
pub all-bound : (S T : State) (C : Context) (a : bare.Pat) (bs : List BoundVariable) (r : TypedPat) → IsPat S C a T [] bs r → AreVariables T bs
all-bound S T C a bs r h = subst (AreVariables T) (sym h.bound) h.have

bound-has : (S T : State) (C : Context) (x : Vid) (before after : List BoundVariable) (b : BoundVariable) → IsBound S C x before after b T → HasVariable T b
bound-has S T C x before after b h = record { is = h.is; below = let n = h.next in omega (arith, n) }

-- scopes made one after the other
pub onto-plus : (s : Scope) (bs : List BoundVariable) → scope_onto s bs ≡ plus_scope s (scope_of bs)
onto-plus s bs = go s empty bs
  where
    go : (s r : Scope) (bs : List BoundVariable) → scope_onto (plus_scope s r) bs ≡ plus_scope s (scope_onto r bs)
    go s r [] = refl
    go s r (b ∷ bs) = go s (scoped b.vid (variable b.number) r) bs

-- an identifier alone
pub alone_is : (S T : State) (C : Context) (place : Place) (x : Vid) (before after : List BoundVariable) (b : BoundVariable) (r : TypedPat)
    → IsBound S C x before after b T → r.ty ≡ b.ty → r.pat ≡ tree.Variable b.number → IsPat S C (bare.vid_pat place (short x)) T before after r
alone_is S T C place x before after b r h e p = record {
  added = b ∷ [];
  bound = h.last;
  grows = h.grows;
  is = subst (HasType T) (sym e) h.is;
  have = (bound-has S T C x before after b h, tt);
  gives = λ W c A t.
      let s : suc b.number ≡ T.next = let n = h.next in omega (arith, n) in
      let binds = h.binds W c A t in
      record {
        choices = no_choice;
        elab =
            subst (λ q. PatElab W.table A S.next (bare.vid_pat place (short x)) q (type_of W r.ty) (bound_of W (b ∷ [])) no_choice (scope_of (b ∷ [])) T.next)
            (sym (ap (pat_of W.reading) p ∙ pat_of-Variable W.reading b.number))
            (subst (λ j. PatElab W.table A S.next (bare.vid_pat place (short x)) (prog.variable_pat b.number) (type_of W r.ty) (bound_of W (b ∷ [])) no_choice (scope_of (b ∷ [])) j) s
            (subst (λ k. PatElab W.table A S.next (bare.vid_pat place (short x)) (prog.variable_pat b.number) (type_of W k) (bound_of W (b ∷ [])) no_choice (scope_of (b ∷ [])) (suc b.number)) (sym e)
            (subst (λ y. PatElab W.table A S.next (bare.vid_pat place (short x)) (prog.variable_pat b.number) (type_of W b.ty) ((y, type_of W b.ty) ∷ []) no_choice (scoped y (variable b.number) empty) (suc b.number)) (sym h.vid)
            (variable_elab place x b.number h.number binds))));
        names = subst (λ k. Rattle.core_rules.specs.Objects.Over A.names (type_of W k)) (sym e) binds.over;
        parameters = subst (λ k. over A.parameters (type_of W k) ≡ true) (sym e) (h.parameters W c A t);
      };
}

-- with a type
pub typed_is : (S M T : State) (C : Context) (place : Place) (a : bare.Pat) (ty : bare.Ty) (before after : List BoundVariable) (r : TypedPat)
    → IsPat S C a M before after r → IsAnnotated M C ty r.ty T → IsPat S C (bare.typed_pat place a ty) T before after r
typed_is S M T C place a ty before after r h n = record {
  added = h.added;
  bound = h.bound;
  grows = grows_on S M T h.grows n.grows;
  is = type_later M T r.ty n.grows h.is;
  have = all-later M T n.grows h.added h.have;
  gives = λ W c A t.
      let e = h.gives W (comes_before M T W n.grows c) A t in
      record {
        choices = e.choices;
        elab = subst (PatElab W.table A S.next (bare.typed_pat place a ty) (pat_of W.reading r.pat) (type_of W r.ty) (bound_of W h.added) e.choices (scope_of h.added)) (sym n.next)
            (typed_elab place e.elab (n.stands W c A t));
        names = e.names;
        parameters = e.parameters;
      };
}

-- an identifier and a pattern for one value
pub as_is : (S M N P T : State) (C : Context) (place : Place) (x : Vid) (ty : Option bare.Ty) (a : bare.Pat) (before mid after : List BoundVariable)
    (b : BoundVariable) (inner r : TypedPat) (boxed : Box Pat Global) → IsBound S C x before mid b M → IsPat M C a N mid after inner → IsAnnotatedIf N C ty b.ty P → Grows P T
    → Always T (λ W. type_of W b.ty ≡ type_of W inner.ty) → T.next ≡ P.next → r.ty ≡ b.ty → r.pat ≡ tree.As b.number boxed → boxed.value ≡ inner.pat
    → IsPat S C (bare.as_pat place x ty a) T before after r
as_is S M N P T C place x ty a before mid after b inner r boxed h i n g same e q p v =
    let up = grows_on N P T n.grows g in let all = grows_on M N T i.grows up in record {
      added = b ∷ i.added;
      bound = i.bound ∙ ap (λ l. l ++ i.added) h.last ∙ append_assoc before (b ∷ []) i.added;
      grows = grows_on S M T h.grows all;
      is = subst (HasType T) (sym q) (type_later M T b.ty all h.is);
      have = (variable-later M T b all (bound-has S M C x before mid b h), all-later N T up i.added i.have);
      gives = λ W c A t.
          let cp = comes_before P T W g c in
          let cn = comes_before N P W n.grows cp in
          let cm = comes_before M N W i.grows cn in
          let d = i.gives W cn A t in
          let w = same W c in
          let bi = h.binds W cm A t in
          let k : suc b.number ≡ M.next = let z = h.next in omega (arith, z) in
          let elab : PatElab W.table A (suc b.number) a (pat_of W.reading inner.pat) (type_of W b.ty) (bound_of W i.added) d.choices (scope_of i.added) T.next
          = subst (λ s. PatElab W.table A s a (pat_of W.reading inner.pat) (type_of W b.ty) (bound_of W i.added) d.choices (scope_of i.added) T.next) (sym k)
          (subst (λ u. PatElab W.table A M.next a (pat_of W.reading inner.pat) u (bound_of W i.added) d.choices (scope_of i.added) T.next) (sym w)
          (subst (PatElab W.table A M.next a (pat_of W.reading inner.pat) (type_of W inner.ty) (bound_of W i.added) d.choices (scope_of i.added)) (sym (e ∙ n.next)) d.elab)) in
          record {
            choices = d.choices;
            elab =
                subst (λ u. PatElab W.table A S.next (bare.as_pat place x ty a) u (type_of W r.ty) (bound_of W (b ∷ i.added)) d.choices (scope_of (b ∷ i.added)) T.next)
                (sym (ap (pat_of W.reading) p ∙ pat_of-As W.reading b.number boxed))
                (subst (λ u. PatElab W.table A S.next (bare.as_pat place x ty a) (prog.as_pat b.number (pat_of W.reading u)) (type_of W r.ty) (bound_of W (b ∷ i.added)) d.choices (scope_of (b ∷ i.added)) T.next) (sym v)
                (subst (λ u. PatElab W.table A S.next (bare.as_pat place x ty a) (prog.as_pat b.number (pat_of W.reading inner.pat)) (type_of W u) (bound_of W (b ∷ i.added)) d.choices (scope_of (b ∷ i.added)) T.next) (sym q)
                (subst (λ s. PatElab W.table A S.next (bare.as_pat place x ty a) (prog.as_pat b.number (pat_of W.reading inner.pat)) (type_of W b.ty) (bound_of W (b ∷ i.added)) d.choices s T.next) (sym (onto-plus (scoped b.vid (variable b.number) empty) i.added))
                (subst (λ y. PatElab W.table A S.next (bare.as_pat place x ty a) (prog.as_pat b.number (pat_of W.reading inner.pat)) (type_of W b.ty) ((y, type_of W b.ty) ∷ bound_of W i.added) d.choices (plus_scope (scoped y (variable b.number) empty) (scope_of i.added)) T.next) (sym h.vid)
                (as_elab place x b.number h.number bi (n.stands W cp A t) elab)))));
            names = subst (λ u. Rattle.core_rules.specs.Objects.Over A.names (type_of W u)) (sym q) bi.over;
            parameters = subst (λ u. over A.parameters (type_of W u) ≡ true) (sym q) (h.parameters W cm A t);
          };
    }
