use Rattle.std.proofs.Common.{length, refl}
use Rattle.ty_instance.proofs.Going.{longer}
use Rattle.ty_instance.proofs.Putting.{on-ok}
use Rattle.elab_steps.proofs.Changing.{tabled_grows, written_later}
use Rattle.datatype_forms.proofs.closed.closed_apply.Goals as goal

pub invariant_of-state : goal.invariant_of-state
invariant_of-state c =
    let s = c.args.state.now in
    let ts = s.solver.subst.types in
    record {
      held = written_later (length ts) (length c.apply.new.self.subst.types) (length s.namings.items) s.written.items (longer ts c.apply.new.self.subst.types c.apply.ensures.earlier_stay) s.held;
      ordered = s.ordered;
      rows = s.rows;
    }

pub returns-clause-step : goal.returns-clause-step
returns-clause-step c =
    on-ok c.apply.result (λ r e. record {
      grows = tabled_grows c.args.state.now _ (record {
        stays = record { written = refl; namings = refl; tables = refl; next = refl; level = refl };
        types = c.apply.ensures.earlier_stay;
        slots = c.apply.ensures.slots;
        limits = c.apply.ensures.limits;
        says = c.apply.ensures.says;
      });
      next = refl;
    }) c.apply.ensures.held
