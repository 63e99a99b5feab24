use Rattle.std.proofs.Common.{length, refl}
use Rattle.sml_tree.specs.TreeOf.{ty_of}
use Rattle.elab_state.proofs.of_ty_instance.Going.{longer}
use Rattle.elab_steps.proofs.Changing.{if-ok, tabled_grows, annotated_is, written_later}
use Rattle.elab_steps.proofs.annotate.annotated.Goals as goal

pub invariant_of-state : goal.invariant_of-state
invariant_of-state c =
    let s = c.args.state.now in
    let ts = s.solver.subst.types in
    record {
      held = written_later (length ts) (length c.annotation_within.new.solver.subst.types) (length s.namings.items) s.written.items
          (longer ts c.annotation_within.new.solver.subst.types c.annotation_within.ensures.earlier_stay) s.held;
      ordered = s.ordered;
      rows = s.rows;
    }

pub returns-clause-grows : goal.returns-clause-grows
returns-clause-grows c =
    if-ok c.annotation_within.result (λ r e. tabled_grows c.args.state.now _ (record {
      stays = record { written = refl; namings = refl; tables = refl; next = refl; level = refl };
      types = c.annotation_within.ensures.earlier_stay;
      slots = c.annotation_within.ensures.slots;
      limits = c.annotation_within.ensures.limits;
      says = c.annotation_within.ensures.says;
    })) c.annotation_within.ensures.is

pub returns-clause-is : goal.returns-clause-is
returns-clause-is c =
    if-ok c.annotation_within.result (λ r e. annotated_is c.args.state.now _ c.args.scope.now (ty_of c.args.ty.now) r (record {
      stays = record { written = refl; namings = refl; tables = refl; next = refl; level = refl };
      types = c.annotation_within.ensures.earlier_stay;
      slots = c.annotation_within.ensures.slots;
      limits = c.annotation_within.ensures.limits;
      says = c.annotation_within.ensures.says;
    }) c.requires.known c.requires.live e) c.annotation_within.ensures.is
