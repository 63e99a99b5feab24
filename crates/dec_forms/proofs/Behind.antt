-- What stands behind `of`.
use Rattle.std.proofs.Common.{◌≡◌, ℕ, Some, None, refl, ap, ◌∙◌}
use Rattle.std.specs.Prelude.{option_map}
use Rattle.ty_solve.specs.declared.limit.Limit.{Limit}
use Rattle.sml_tree.specs.BareTree.{Ty}
use Rattle.elab_typed.specs.Numbers.{type_as}
use Rattle.closed_types.specs.of_elab_state.declared.state.State.{State}
use Rattle.closed_types.specs.of_elab_steps.Growing.{HasType, Grows, Always, IsWithin}
use Rattle.closed_types.specs.of_elab_steps.World.{type_of}
use Rattle.closed_types.proofs.of_elab_steps.Growing.{grows_same, grows_on, type_later, comes_before}
use Rattle.exp_forms.specs.of_elab_context.Entries.{limit_of}
use Rattle.exp_forms.specs.of_elab_context.Telling.{IsContext}
use Rattle.exp_forms.specs.of_elab_context.declared.context.Context.{Context}
use Rattle.exp_forms.specs.of_pat_elab.Elaborated.{IsAnnotated}
use Rattle.exp_forms.proofs.Calling.{new-names, new-parameters, written-as}
use Rattle.dec_forms.specs.Exceptions.{IsArgumentOf}

pub argument_written : (S F M T : State) (C : Context) (ty : Ty) (l : Limit) (k written : ℕ) → IsContext S C → l ≡ limit_of C → Grows S F → F.next ≡ S.next → HasType F k
    → Always F (λ W. IsWithin W l k) → IsAnnotated F C ty k M → Grows M T → T.next ≡ M.next → Always T (λ W. W.reading.type written ≡ type_as (W.naming C.naming) (type_of W k))
    → IsArgumentOf S C (Some ty) T (record { ty = Some k; written = Some written })
argument_written S F M T C ty l k written ic el g gn hk w an h hn wr =
    let ft = grows_on F M T an.grows h in
    record {
      grows = grows_on S F T g ft;
      next = hn ∙ an.next ∙ gn;
      held = type_later F T k ft hk;
      gives = λ W c A t.
          let wi = w W (comes_before F T W ft c) in
          record {
            stands = λ s. ap (option_map Some) (an.stands W (comes_before M T W h c) A t s);
            in_use = record { names = new-names C W A l k t el wi; parameters = new-parameters S C W A l k ic t el wi };
            written = ap Some (wr W c ∙ written-as C W A (type_of W k) t);
          };
    }

pub no_argument : (S : State) (C : Context) → IsArgumentOf S C None S (record { ty = None; written = None })
no_argument S C = record { grows = grows_same S; next = refl; held = tt; gives = λ W c A t. record { stands = λ s. refl; in_use = tt; written = refl } }
