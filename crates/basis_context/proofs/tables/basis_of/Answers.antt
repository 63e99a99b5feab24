use Rattle.std.proofs.Common.{length, refl}
use Rattle.ty_instance.proofs.Going.{longer}
use Rattle.elab_steps.proofs.Changing.{if-ok, tabled_grows, written_later}
use Rattle.basis_context.proofs.tables.basis_of.Goals as goal

pub invariant_of-state : goal.invariant_of-state
invariant_of-state c =
    let s = c.args.state.now in
    let ts = s.solver.subst.types in
    record {
      held = written_later (length ts) (length c.basis_within.new.solver.subst.types) (length s.namings.items) s.written.items
          (longer ts c.basis_within.new.solver.subst.types c.basis_within.ensures.earlier_stay) s.held;
      ordered = s.ordered;
      rows = s.rows;
    }

pub returns-clause-grows : goal.returns-clause-grows
returns-clause-grows c =
    if-ok c.basis_within.result (λ r e. tabled_grows c.args.state.now _ (record {
      stays = record { written = refl; namings = refl; tables = refl; next = refl; level = refl };
      types = c.basis_within.ensures.earlier_stay;
      slots = c.basis_within.ensures.slots;
      limits = c.basis_within.ensures.limits;
      says = c.basis_within.ensures.says;
    })) c.basis_within.ensures.has
