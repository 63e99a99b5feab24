use Rattle.std.proofs.Common.{length, refl}
use Rattle.ty_instance.proofs.Going.{longer}
use Rattle.elab_steps.proofs.Changing.{if-ok, tabled_grows, written_later}
use Rattle.datatype_forms.proofs.closed.variables.Goals as goal

pub invariant_of-state : goal.invariant_of-state
invariant_of-state c =
    let s = c.args.state.now in
    let ts = s.solver.subst.types in
    record {
      held = written_later (length ts) (length c.variables_within.new.solver.subst.types) (length s.namings.items) s.written.items
          (longer ts c.variables_within.new.solver.subst.types c.variables_within.ensures.earlier_stay) s.held;
      ordered = s.ordered;
      rows = s.rows;
    }

pub returns-clause-step : goal.returns-clause-step
returns-clause-step c =
    if-ok c.variables_within.result (λ r e. record {
      grows = tabled_grows c.args.state.now _ (record {
        stays = record { written = refl; namings = refl; tables = refl; next = refl; level = refl };
        types = c.variables_within.ensures.earlier_stay;
        slots = c.variables_within.ensures.slots;
        limits = c.variables_within.ensures.limits;
        says = c.variables_within.ensures.says;
      });
      next = refl;
    }) c.variables_within.ensures.are
