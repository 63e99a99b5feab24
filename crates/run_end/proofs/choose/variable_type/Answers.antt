use Rattle.std.proofs.Common.{length, refl}
use Rattle.ty_instance.proofs.Going.{longer}
use Rattle.elab_steps.proofs.Changing.{if-ok, tabled_grows, written_later}
use Rattle.run_end.proofs.Choosing.{variable-at, variable-type}
use Rattle.run_end.proofs.choose.variable_type.Goals as goal

pub invariant_of-state : goal.invariant_of-state
invariant_of-state c =
    let s = c.args.state.now in
    let ts = s.solver.subst.types in
    record {
      held = written_later (length ts) (length c.variable.new.self.subst.types) (length s.namings.items) s.written.items
          (longer ts c.variable.new.self.subst.types c.variable.ensures.earlier_stay) s.held;
      ordered = s.ordered;
      rows = s.rows;
    }

pub returns-clause-grows : goal.returns-clause-grows
returns-clause-grows c =
    if-ok c.variable.result (λ r e. tabled_grows c.args.state.now _ (record {
      stays = record { written = refl; namings = refl; tables = refl; next = refl; level = refl };
      types = c.variable.ensures.earlier_stay;
      slots = c.variable.ensures.slots;
      limits = c.variable.ensures.limits;
      says = c.variable.ensures.says;
    })) c.variable.ensures.held

pub returns-clause-ty : goal.returns-clause-ty
returns-clause-ty c =
    if-ok c.variable.result (λ r e. variable-type c.args.state.now _ r c.args.variable (record {
      stays = record { written = refl; namings = refl; tables = refl; next = refl; level = refl };
      types = c.variable.ensures.earlier_stay;
      slots = c.variable.ensures.slots;
      limits = c.variable.ensures.limits;
      says = c.variable.ensures.says;
    }) e c.requires.held c.requires.live) c.variable.ensures.held

pub returns-clause-is : goal.returns-clause-is
returns-clause-is c = if-ok c.variable.result (λ r e. variable-at c.variable.new.self.subst.types r c.args.variable e) c.variable.ensures.held
