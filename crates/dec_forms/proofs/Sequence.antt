-- A declaration of declarations.
use Rattle.std.proofs.Common.{List, subst}
use Rattle.mlc_base.specs.declared.place.Place.{Place}
use Rattle.sml_tree.specs.BareTree as bare
use Rattle.sml_tree.specs.TreeOf as source
use Rattle.prog_tree.specs.declared.tree.Dec.{Dec}
use Rattle.elab_typed.specs.Elaborates.{DecElab, sequence_elab}
use Rattle.closed_types.specs.of_elab_state.declared.state.State.{State}
use Rattle.exp_forms.specs.of_elab_context.declared.context.Context.{Context}
use Rattle.dec_forms.specs.Bringing.{AreBringing, IsBringing, all_effects}
use Rattle.dec_forms.specs.declared.brought.Brought.{Brought}
use Rattle.dec_forms.proofs.Effects.{all_choices, effects-do}

pub sequence_is : (S T : State) (C D : Context) (p : Place) (ds : List bare.Dec) (xs : List Dec) (a b : Brought) → AreBringing S C ds T D xs a b
    → IsBringing S C (bare.sequence_dec p (source.decs_of ds)) T D xs a b
sequence_is S T C D p ds xs a b h = record {
  values = h.values;
  types = h.types;
  all_values = h.all_values;
  all_types = h.all_types;
  adds = h.adds;
  grows = h.grows;
  numbered = h.numbered;
  gives = λ n W c A t.
      let e = h.gives n W c A t in
      let m = all_effects A e.effects in
      let cs = all_choices e.choices in
      record {
        effect = m;
        choices = cs;
        elab = λ i le.
            let f = e.elab i le in
            record {
              next = f.next;
              most = f.most;
              elab =
                  subst (λ x. DecElab W.table A i (bare.sequence_dec p (source.decs_of ds)) x m.made m.number m.env m.scope m.known cs f.next) e.whole (sequence_elab p (effects-do f.elab));
            };
        brings = e.brings;
      };
}
