-- Parameters that come into scope.
use Rattle.std.proofs.Common.{◌≡◌, ◌<◌, ◌≤◌, ◌+◌, ℕ, suc, List, [], ◌∷◌, ◌++◌, refl, sym, ap, subst, ◌∙◌, arith}
use Rattle.mlc_base.specs.declared.place.Place.{Place}
use Rattle.sml_tree.specs.BareTree as bare
use Rattle.sml_tree.specs.Derived.{short}
use Rattle.sml_tree.specs.declared.ident.Vid.{Vid}
use Rattle.ir_poly.specs.TestsChecked.{of_type}
use Rattle.prog_tree.specs.declared.tree.Parameter.{Parameter}
use Rattle.elab_typed.specs.Contexts.{Around}
use Rattle.elab_typed.specs.Elaborates.{Binds, named_elab, variable_elab}
use Rattle.elab_typed.specs.Instances.{as_typed}
use Rattle.elab_typed.specs.Numbers.{type_as}
use Rattle.pat_elab.specs.of_elab_state.declared.state.State.{State}
use Rattle.pat_elab.specs.of_elab_steps.Growing.{AreTypes, Grows, Always}
use Rattle.pat_elab.specs.of_elab_steps.World.{World, type_of}
use Rattle.pat_elab.proofs.of_elab_steps.Growing.{grows_on, grows_same, type_later, comes_before}
use Rattle.pat_elab.specs.of_elab_context.Telling.{Tells, IsContext, IsInUse}
use Rattle.pat_elab.specs.of_elab_context.declared.context.Context.{Context}
use Rattle.pat_elab.specs.Elaborated.{AreVariables, IsBound}
use Rattle.pat_elab.specs.declared.bound.BoundVariable.{BoundVariable}
use Rattle.exp_forms.specs.Within.{within}
use Rattle.exp_forms.proofs.Knowing.{pattern-binds}
use Rattle.exp_forms.proofs.Within.{tells_within}
use Rattle.pat_elab.specs.of_elab_context.Numbered.{IsNumbered}
use Rattle.exp_forms.proofs.Entering.{context_within, number-known}
use Rattle.pat_elab.proofs.of_elab_context.Reading.{context_later}
use Rattle.exp_forms.specs.Parameters.{Enters, IsEntered, Takes, AreEntered, none_entered, one_entered}

-- an identifier that a pattern binds
enters : (C : Context) (W : World) (A : Around) (place : Place) (k : ℕ) (b : BoundVariable) → IsNumbered k C → Tells C W A → k ≤ b.number → Binds A b.vid (type_of W b.ty)
    → IsInUse A (type_of W b.ty) → Enters W A (within C (b ∷ [])) (bare.vid_pat place (short b.vid)) b.number (type_of W b.ty) (b ∷ [])
enters C W A place k b num t le binds used = record {
  elab = named_elab place b.vid binds;
  used = used;
  tells =
      tells_within C W A (b ∷ []) k (suc b.number) ((b.number, of_type (as_typed A (type_of W b.ty))) ∷ A.known) t
      (pattern-binds W.table A (variable_elab place b.vid b.number le binds) A.known) refl (used, tt) (λ y e m v q s. num y.qualifiers y.vid e q m (number-known W A e m v s));
}

below-next : (m n k : ℕ) → k ≡ m → m ≡ n + 1 → n < k
below-next m n k e q = omega (arith, e, q)

pub entered_is : (S M T : State) (C D : Context) (place : Place) (x : Vid) (after : List BoundVariable) (b : BoundVariable) (p : Parameter) → IsContext S C → IsBound S C x [] after b M
    → Grows M T → T.next ≡ M.next → Always T (λ W. W.reading.type p.ty ≡ type_as (W.naming C.naming) (type_of W b.ty)) → D ≡ within C after → p.variable ≡ b.number
    → IsEntered S C (bare.vid_pat place (short x)) T D p b.ty
entered_is S M T C D place x after b p i h g n w d e = record {
  bound = b ∷ [];
  grows = grows_on S M T h.grows g;
  is = type_later M T b.ty g h.is;
  first = subst (λ k. S.next ≤ k) (sym e) h.number;
  next = subst (λ k. k < T.next) (sym e) (below-next M.next b.number T.next n h.next);
  written = w;
  gives = λ W c A t.
      let cm = comes_before M T W g c in
      let u = type_of W b.ty in
      let binds = h.binds W cm A t in
      let made = enters C W A place S.next b i.numbered t h.number (subst (λ z. Binds A z u) (sym h.vid) binds) (record { names = binds.over; parameters = h.parameters W cm A t }) in
      subst (λ z. Enters W A D (bare.vid_pat place (short x)) z u (b ∷ [])) (sym e)
      (subst (λ z. Enters W A z (bare.vid_pat place (short x)) b.number u (b ∷ [])) (sym (d ∙ ap (within C) h.last))
      (subst (λ z. Enters W A (within C (b ∷ [])) (bare.vid_pat place (short z)) b.number u (b ∷ [])) h.vid made));
}

pub fresh_context : (S M T : State) (C D : Context) (x : Vid) (after : List BoundVariable) (b : BoundVariable) → IsContext S C → IsBound S C x [] after b M → Grows M T → D ≡ within C after
    → IsContext T D
fresh_context S M T C D x after b i h g d =
    context_within M T C D after g (context_later S M C h.grows i)
    (subst (AreVariables M) (sym h.last) (record { is = h.is; below = below-next M.next b.number M.next refl h.next }, tt)) d

-- one after the other

pub entered-grows : {S T : State} {C D : Context} {as_ : List Takes} {ps : List Parameter} {ts : List ℕ} → AreEntered S C as_ T D ps ts → Grows S T
entered-grows {S = S} none_entered = grows_same S
entered-grows {S = S} {T = T} (one_entered {M = M} h rest) = grows_on S M T h.grows (entered-grows rest)

pub entered-types : {S T : State} {C D : Context} {as_ : List Takes} {ps : List Parameter} {ts : List ℕ} → AreEntered S C as_ T D ps ts → AreTypes T ts
entered-types none_entered = tt
entered-types {T = T} (one_entered {M = M} {t = t} h rest) = (type_later M T t (entered-grows rest) h.is, entered-types rest)

pub entered-snoc : {S M T : State} {C D E : Context} {as_ : List Takes} {ps : List Parameter} {ts : List ℕ} (a : Takes) (p : Parameter) (t : ℕ) → AreEntered S C as_ M D ps ts
    → IsEntered M D a.pat T E p t → AreEntered S C (as_ ++ a ∷ []) T E (ps ++ p ∷ []) (ts ++ t ∷ [])
entered-snoc a p t none_entered h = one_entered h none_entered
entered-snoc a p t (one_entered k rest) h = one_entered k (entered-snoc a p t rest h)

pub start_is : (S T : State) (C D : Context) (a : Takes) (p q : Parameter) (t : ℕ) (ps : List Parameter) (ts : List ℕ) → IsEntered S C a.pat T D p t → ps ≡ [] → q ≡ p → ts ≡ t ∷ []
    → AreEntered S C (a ∷ []) T D (ps ++ q ∷ []) ts
start_is S T C D a p q t ps ts h e eq et =
    subst (λ z. AreEntered S C (a ∷ []) T D (z ++ q ∷ []) ts) (sym e)
    (subst (λ z. AreEntered S C (a ∷ []) T D (z ∷ []) ts) (sym eq) (subst (AreEntered S C (a ∷ []) T D (p ∷ [])) (sym et) (one_entered h none_entered)))

pub add_is : (S M T : State) (C D E : Context) (as_ : List Takes) (a : Takes) (p last q : Parameter) (t : ℕ) (before ps : List Parameter) (types ts : List ℕ)
    → AreEntered S C as_ M D (before ++ last ∷ []) types → IsEntered M D a.pat T E p t → ps ≡ before ++ last ∷ [] → q ≡ p → ts ≡ types ++ t ∷ []
    → AreEntered S C (as_ ++ a ∷ []) T E (ps ++ q ∷ []) ts
add_is S M T C D E as_ a p last q t before ps types ts h k e eq et =
    subst (λ z. AreEntered S C (as_ ++ a ∷ []) T E (z ++ q ∷ []) ts) (sym e)
    (subst (λ z. AreEntered S C (as_ ++ a ∷ []) T E ((before ++ last ∷ []) ++ z ∷ []) ts) (sym eq)
    (subst (AreEntered S C (as_ ++ a ∷ []) T E ((before ++ last ∷ []) ++ p ∷ [])) (sym et) (entered-snoc a p t h k)))
