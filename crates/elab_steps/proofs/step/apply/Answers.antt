use Rattle.std.proofs.Common.{length, refl}
use Rattle.ty_core.specs.TypesOf.{head_of}
use Rattle.elab_state.proofs.of_ty_instance.Going.{longer}
use Rattle.elab_state.proofs.of_ty_instance.Putting.{on-ok}
use Rattle.elab_steps.proofs.Changing.{applied_grows, applied_is, applied_made, parts_held, written_later}
use Rattle.elab_steps.proofs.step.apply.Goals as goal

pub apply-requires : goal.apply-requires
apply-requires c = parts_held c.args.state.now c.args.parts.now c.requires

pub invariant_of-state : goal.invariant_of-state
invariant_of-state c =
    let s = c.args.state.now in
    let ts = s.solver.subst.types in
    record {
      held = written_later (length ts) (length c.apply.new.self.subst.types) (length s.namings.items) s.written.items (longer ts c.apply.new.self.subst.types c.apply.ensures.earlier_stay) s.held;
      ordered = s.ordered;
      rows = s.rows;
    }

pub returns-clause-grows : goal.returns-clause-grows
returns-clause-grows c =
    on-ok c.apply.result (λ r e. applied_grows c.args.state.now _ (head_of c.args.head) c.args.parts.now r (record {
      stays = record { written = refl; namings = refl; tables = refl; next = refl; level = refl };
      types = c.apply.ensures.earlier_stay;
      slots = c.apply.ensures.slots;
      limits = c.apply.ensures.limits;
      says = c.apply.ensures.says;
      is = e;
    })) c.apply.ensures.held

pub returns-clause-is : goal.returns-clause-is
returns-clause-is c =
    on-ok c.apply.result (λ r e. applied_is c.args.state.now _ (head_of c.args.head) c.args.parts.now r (record {
      stays = record { written = refl; namings = refl; tables = refl; next = refl; level = refl };
      types = c.apply.ensures.earlier_stay;
      slots = c.apply.ensures.slots;
      limits = c.apply.ensures.limits;
      says = c.apply.ensures.says;
      is = e;
    }) c.requires) c.apply.ensures.held

pub returns-clause-made : goal.returns-clause-made
returns-clause-made c =
    on-ok c.apply.result (λ r e. applied_made c.args.state.now _ (head_of c.args.head) c.args.parts.now r (record {
      stays = record { written = refl; namings = refl; tables = refl; next = refl; level = refl };
      types = c.apply.ensures.earlier_stay;
      slots = c.apply.ensures.slots;
      limits = c.apply.ensures.limits;
      says = c.apply.ensures.says;
      is = e;
    }) c.requires) c.apply.ensures.held
