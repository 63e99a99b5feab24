-- Types that are written in patterns.
use Rattle.std.proofs.Common.{◌≡◌, ℕ, Option, Some, None, refl, sym, subst, ◌∙◌}
use Rattle.sml_tree.specs.BareTree as bare
use Rattle.elab_types.specs.Annotations.{IsTypeOf}
use Rattle.elab_context.specs.of_elab_typed.Elaborates.{Stands}
use Rattle.elab_context.specs.of_elab_state.States.{types_in}
use Rattle.elab_context.specs.of_elab_state.declared.state.State.{State}
use Rattle.elab_context.specs.of_elab_steps.Growing.{Grows, Always}
use Rattle.elab_context.specs.of_elab_steps.World.{type_of}
use Rattle.elab_context.proofs.of_elab_steps.Growing.{grows_on, grows_same, comes_before}
use Rattle.elab_context.specs.Telling.{IsContext}
use Rattle.elab_context.specs.declared.context.Context.{Context}
use Rattle.elab_context.proofs.Reading.{stands}
use Rattle.pat_elab.specs.Elaborated.{IsAnnotated, IsAnnotatedIf, IsNamed}

pub annotated_is : (S M T : State) (C : Context) (ty : bare.Ty) (k r : ℕ) → IsContext S C → Grows S M → M.next ≡ S.next → IsTypeOf (types_in S) (types_in M) C.types ty r
    → Grows M T → Always T (λ W. type_of W k ≡ type_of W r) → T.next ≡ M.next → IsAnnotated S C ty k T
annotated_is S M T C ty k r i g n is h same m = record {
  grows = grows_on S M T g h;
  next = m ∙ n;
  stands = λ W c A t.
      let cm = comes_before M T W h c in
      subst (Stands A ty) (sym (same W c)) (stands S M C W A ty r i (comes_before S M W g cm) cm t is);
}

pub annotated_if : (S T : State) (C : Context) (ty : bare.Ty) (k : ℕ) → IsAnnotated S C ty k T → IsAnnotatedIf S C (Some ty) k T
annotated_if S T C ty k h = record { grows = h.grows; next = h.next; stands = h.stands }

pub not_annotated : (S : State) (C : Context) (k : ℕ) → IsAnnotatedIf S C None k S
not_annotated S C k = record { grows = grows_same S; next = refl; stands = λ W c A t. tt }

pub named_is : (S M T : State) (C : Context) (ty : Option bare.Ty) (k inner : ℕ) → IsAnnotatedIf S C ty k M → Grows M T → Always T (λ W. type_of W k ≡ type_of W inner) → T.next ≡ M.next
    → IsNamed S C ty k inner T
named_is S M T C ty k inner h g same n = record {
  annotated = record {
    grows = grows_on S M T h.grows g;
    next = n ∙ h.next;
    stands = λ W c A t. h.stands W (comes_before M T W g c) A t;
  };
  same = same;
}
