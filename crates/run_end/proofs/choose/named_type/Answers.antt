use Rattle.std.proofs.Common.{[], length, refl}
use Rattle.std.proofs.lemmas.Option.{get_or_from_slice_get}
use Rattle.ty_core.specs.Types.{var, con, none, name}
use Rattle.ty_instance.proofs.Going.{longer}
use Rattle.elab_steps.proofs.Changing.{applied_grows, applied_is, if-ok, written_later}
use Rattle.run_end.proofs.choose.named_type.Goals as goal

pub invariant_of-state : goal.invariant_of-state
invariant_of-state c =
    let s = c.args.state.now in
    let ts = s.solver.subst.types in
    record {
      held = written_later (length ts) (length c.apply.new.self.subst.types) (length s.namings.items) s.written.items
          (longer ts c.apply.new.self.subst.types c.apply.ensures.earlier_stay) s.held;
      ordered = s.ordered;
      rows = s.rows;
    }

pub returns-clause-grows : goal.returns-clause-grows
returns-clause-grows c =
    if-ok c.apply.result (λ r e. applied_grows c.args.state.now _ (name c.args.name) [] r (record {
      stays = record { written = refl; namings = refl; tables = refl; next = refl; level = refl };
      types = c.apply.ensures.earlier_stay;
      slots = c.apply.ensures.slots;
      limits = c.apply.ensures.limits;
      says = c.apply.ensures.says;
      is = e;
    })) c.apply.ensures.held

pub returns-clause-ty : goal.returns-clause-ty
returns-clause-ty c =
    if-ok c.apply.result (λ r e. applied_is c.args.state.now _ (name c.args.name) [] r (record {
      stays = record { written = refl; namings = refl; tables = refl; next = refl; level = refl };
      types = c.apply.ensures.earlier_stay;
      slots = c.apply.ensures.slots;
      limits = c.apply.ensures.limits;
      says = c.apply.ensures.says;
      is = e;
    }) tt) c.apply.ensures.held

pub returns-clause-is : goal.returns-clause-is
returns-clause-is c = if-ok c.apply.result (λ r e. get_or_from_slice_get c.apply.new.self.subst.types r (con (name c.args.name) none) (var 0) e) c.apply.ensures.held
