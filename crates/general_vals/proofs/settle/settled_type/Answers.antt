use Rattle.std.proofs.Common.{length, refl}
use Rattle.ty_solve.specs.Said.{said}
use Rattle.ty_instance.proofs.Going.{longer}
use Rattle.elab_steps.proofs.Changing.{if-ok, tabled_grows, written_later}
use Rattle.general_vals.proofs.Settling.{settled-of, settled-is, settled-settles, settled-open, settled-same, tabled-tidy}
use Rattle.general_vals.proofs.settle.settled_type.Goals as goal

pub invariant_of-state : goal.invariant_of-state
invariant_of-state c =
    let s = c.args.state.now in
    let ts = s.solver.subst.types in
    record {
      held = written_later (length ts) (length c.resolve_within.new.solver.subst.types) (length s.namings.items) s.written.items
          (longer ts c.resolve_within.new.solver.subst.types c.resolve_within.ensures.earlier_stay) s.held;
      ordered = s.ordered;
      rows = s.rows;
    }

pub returns-clause-grows : goal.returns-clause-grows
returns-clause-grows c =
    if-ok c.resolve_within.result (λ r e. tabled_grows c.args.state.now _ (record {
      stays = record { written = refl; namings = refl; tables = refl; next = refl; level = refl };
      types = c.resolve_within.ensures.earlier_stay;
      slots = c.resolve_within.ensures.slots;
      limits = c.resolve_within.ensures.limits;
      says = c.resolve_within.ensures.says;
    })) c.resolve_within.ensures.held

pub returns-clause-is : goal.returns-clause-is
returns-clause-is c =
    if-ok c.resolve_within.result (λ r e. settled-is c.args.state.now _ c.args.ty r (record {
      stays = record { written = refl; namings = refl; tables = refl; next = refl; level = refl };
      types = c.resolve_within.ensures.earlier_stay;
      slots = c.resolve_within.ensures.slots;
      limits = c.resolve_within.ensures.limits;
      says = c.resolve_within.ensures.says;
    }) c.requires e) (settled-of c.args.state.now.solver.subst.types c.resolve_within.new.solver.subst.types (said c.args.state.now.solver.subst)
    (length c.args.state.now.solver.subst.slots.items) c.args.ty c.resolve_within.result c.resolve_within.ensures.held c.resolve_within.ensures.same c.resolve_within.ensures.open_in
    c.resolve_within.ensures.below c.resolve_within.ensures.is)

pub returns-clause-settles : goal.returns-clause-settles
returns-clause-settles c =
    if-ok c.resolve_within.result (λ r e. settled-settles c.args.state.now _ c.args.ty r (record {
      stays = record { written = refl; namings = refl; tables = refl; next = refl; level = refl };
      types = c.resolve_within.ensures.earlier_stay;
      slots = c.resolve_within.ensures.slots;
      limits = c.resolve_within.ensures.limits;
      says = c.resolve_within.ensures.says;
    }) c.requires e) (settled-of c.args.state.now.solver.subst.types c.resolve_within.new.solver.subst.types (said c.args.state.now.solver.subst)
    (length c.args.state.now.solver.subst.slots.items) c.args.ty c.resolve_within.result c.resolve_within.ensures.held c.resolve_within.ensures.same c.resolve_within.ensures.open_in
    c.resolve_within.ensures.below c.resolve_within.ensures.is)

pub returns-clause-open : goal.returns-clause-open
returns-clause-open c =
    if-ok c.resolve_within.result (λ r e. settled-open c.args.state.now.solver.subst.types c.resolve_within.new.solver.subst.types (said c.args.state.now.solver.subst)
    (said c.resolve_within.new.solver.subst) (length c.args.state.now.solver.subst.slots.items) c.args.ty r c.resolve_within.ensures.says e)
    (settled-of c.args.state.now.solver.subst.types c.resolve_within.new.solver.subst.types (said c.args.state.now.solver.subst)
    (length c.args.state.now.solver.subst.slots.items) c.args.ty c.resolve_within.result c.resolve_within.ensures.held c.resolve_within.ensures.same c.resolve_within.ensures.open_in
    c.resolve_within.ensures.below c.resolve_within.ensures.is)

pub returns-clause-same : goal.returns-clause-same
returns-clause-same c =
    if-ok c.resolve_within.result (λ r e. settled-same c.args.state.now _ c.args.ty r (record {
      stays = record { written = refl; namings = refl; tables = refl; next = refl; level = refl };
      types = c.resolve_within.ensures.earlier_stay;
      slots = c.resolve_within.ensures.slots;
      limits = c.resolve_within.ensures.limits;
      says = c.resolve_within.ensures.says;
    }) c.requires e) (settled-of c.args.state.now.solver.subst.types c.resolve_within.new.solver.subst.types (said c.args.state.now.solver.subst)
    (length c.args.state.now.solver.subst.slots.items) c.args.ty c.resolve_within.result c.resolve_within.ensures.held c.resolve_within.ensures.same c.resolve_within.ensures.open_in
    c.resolve_within.ensures.below c.resolve_within.ensures.is)

pub returns-clause-tidy : goal.returns-clause-tidy
returns-clause-tidy c =
    if-ok c.resolve_within.result (λ r e. tabled-tidy c.args.state.now _ (record {
      stays = record { written = refl; namings = refl; tables = refl; next = refl; level = refl };
      types = c.resolve_within.ensures.earlier_stay;
      slots = c.resolve_within.ensures.slots;
      limits = c.resolve_within.ensures.limits;
      says = c.resolve_within.ensures.says;
    })) c.resolve_within.ensures.held
