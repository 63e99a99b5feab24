-- Types that are written in heads.
use Rattle.std.proofs.Common.{◌≡◌, ℕ, Bool, true, false, List, [], ◌∷◌, Option, refl, sym, ap, subst, ◌∙◌}
use Rattle.mlc_base.specs.declared.place.Place.{Place}
use Rattle.ty_core.specs.Types.{Typ}
use Rattle.sml_tree.specs.BareTree as bare
use Rattle.sml_tree.specs.Derived.{Operand, VidAt, chain_of, join_pats, left_chain, list_pat_of, short}
use Rattle.sml_tree.specs.Terminal.{LongVid}
use Rattle.sml_tree.specs.declared.ident.Vid.{Vid}
use Rattle.elab_typed.specs.Contexts.{Around}
use Rattle.elab_typed.specs.Elaborates.{head_wild, head_variable, head_typed, head_as}
use Rattle.elab_state.specs.declared.state.State.{State}
use Rattle.elab_steps.proofs.Growing.{comes_before, grows_on, grows_same}
use Rattle.elab_context.specs.declared.context.Context.{Context}
use Rattle.dec_forms.specs.of_pat_elab.Elaborated.{IsAnnotated, IsAnnotatedIf}
use Rattle.rec_groups.specs.Heads.{IsAnnotatedHead, IsHeadIn, is_head}

-- what has no types
abbrev NeedsNone : bare.Pat → Type 0
NeedsNone a = (A : Around) (t : Typ) → IsHeadIn A a t

nothing : (S : State) (E : Context) (a : bare.Pat) (ty : ℕ) → NeedsNone a → IsAnnotatedHead S E a ty S
nothing S E a ty f = record { grows = grows_same S; next = refl; gives = λ W c A t. f A (Rattle.elab_steps.specs.World.type_of W ty) }

pub wild_annotated : (S : State) (E : Context) (p : Place) (ty : ℕ) → IsAnnotatedHead S E (bare.wild_pat p) ty S
wild_annotated S E p ty = nothing S E (bare.wild_pat p) ty (λ A t f. head_wild p f.names)

variable-in : (A : Around) (p : Place) (x : Vid) (t : Typ) → IsHeadIn A (bare.vid_pat p (short x)) t
variable-in A p x t f = head_variable p x f.unmatched.0 f.unkept.0 f.names

-- also one that has no qualifiers in the code's tree
pub vid_annotated : (S : State) (E : Context) (p : Place) (x : LongVid) (ty : ℕ) → IsAnnotatedHead S E (bare.vid_pat p x) ty S
vid_annotated S E p x ty = nothing S E (bare.vid_pat p x) ty (λ A t. go A t x.qualifiers refl)
  where
    go : (A : Around) (t : Typ) (qs : List ℕ) → x.qualifiers ≡ qs → IsHeadIn A (bare.vid_pat p x) t
    go A t [] q = subst (λ l. IsHeadIn A (bare.vid_pat p (record { qualifiers = l; vid = x.vid })) t) (sym q) (variable-in A p x.vid t)
    go A t (y ∷ qs) q = λ f. absurd (no (ap (λ l. elim l [ [] ↦ true | z ∷ zs ↦ false ]) (sym q) ∙ f.shape))
      where
        no : false ≡ true → ⊥
        no e = cc

-- no head
pub other_annotated : (S : State) (E : Context) (a : bare.Pat) (ty : ℕ) → is_head a ≡ false → IsAnnotatedHead S E a ty S
other_annotated S E a ty e = nothing S E a ty (λ A t f. absurd (no (sym e ∙ f.shape)))
  where
    no : false ≡ true → ⊥
    no q = cc

pub typed_annotated : (S M T : State) (E : Context) (p : Place) (a : bare.Pat) (written : bare.Ty) (ty : ℕ) → IsAnnotatedHead S E a ty M → IsAnnotated M E written ty T
    → IsAnnotatedHead S E (bare.typed_pat p a written) ty T
typed_annotated S M T E p a written ty h k = record {
  grows = grows_on S M T h.grows k.grows;
  next = k.next ∙ h.next;
  gives = λ W c A t f.
      head_typed p (h.gives W (comes_before M T W k.grows c) A t (record { names = f.names; unmatched = f.unmatched; unkept = f.unkept; shape = f.shape })) (k.stands W c A t);
}

pub as_annotated : (S M T : State) (E : Context) (p : Place) (x : Vid) (written : Option bare.Ty) (a : bare.Pat) (ty : ℕ) → IsAnnotatedIf S E written ty M → IsAnnotatedHead M E a ty T
    → IsAnnotatedHead S E (bare.as_pat p x written a) ty T
as_annotated S M T E p x written a ty k h = record {
  grows = grows_on S M T k.grows h.grows;
  next = h.next ∙ k.next;
  gives = λ W c A t f.
      head_as p x f.unmatched.0 f.unkept.0 (k.stands W (comes_before M T W h.grows c) A t)
      (h.gives W c A t (record { names = f.names; unmatched = f.unmatched.1; unkept = f.unkept.1; shape = f.shape }));
}

-- of what the code's pattern stands for
pub at_source : (S T : State) (E : Context) (a b : bare.Pat) (ty : ℕ) → a ≡ b → IsAnnotatedHead S E b ty T → IsAnnotatedHead S E a ty T
at_source S T E a b ty e h = subst (λ z. IsAnnotatedHead S E z ty T) (sym e) h

pub list_annotated : (S : State) (E : Context) (p : Place) (as_ : List bare.Pat) (ty : ℕ) → IsAnnotatedHead S E (list_pat_of p as_) ty S
list_annotated S E p [] ty = other_annotated S E (list_pat_of p []) ty refl
list_annotated S E p (a ∷ as_) ty = other_annotated S E (list_pat_of p (a ∷ as_)) ty refl

-- operands joined by constructors are no head
left-none : (p : Place) (a : bare.Pat) (os : List (Operand VidAt bare.Pat)) → is_head a ≡ false → is_head (left_chain join_pats p a os) ≡ false
left-none p a [] e = e
left-none p a (o ∷ os) e = left-none p (join_pats o.joint p a o.operand) os refl

chain-none : (r : Bool) (p : Place) (a : bare.Pat) (o : Operand VidAt bare.Pat) (os : List (Operand VidAt bare.Pat)) → is_head (chain_of join_pats r p a (o ∷ os)) ≡ false
chain-none true p a o os = refl
chain-none false p a o os = left-none p (join_pats o.joint p a o.operand) os refl

pub chain-alone : (r : Bool) (p : Place) (a : bare.Pat) → chain_of join_pats r p a [] ≡ a
chain-alone true p a = refl
chain-alone false p a = refl

pub chain_annotated : (S T : State) (E : Context) (r : Bool) (p : Place) (a : bare.Pat) (os : List (Operand VidAt bare.Pat)) (ty : ℕ) → IsAnnotatedHead S E a ty T
    → IsAnnotatedHead S E (chain_of join_pats r p a os) ty T
chain_annotated S T E r p a [] ty h = at_source S T E (chain_of join_pats r p a []) a ty (chain-alone r p a) h
chain_annotated S T E r p a (o ∷ os) ty h = record {
  grows = h.grows;
  next = h.next;
  gives = λ W c A t f. absurd (no (sym (chain-none r p a o os) ∙ f.shape));
}
  where
    no : false ≡ true → ⊥
    no q = cc
