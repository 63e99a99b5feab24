use Rattle.std.proofs.Common.{length, refl, ◌∙◌}
use Rattle.elab_types.specs.of_ty_solve.declared.subst.Slot.TheVariants.{Open}
use Rattle.elab_state.proofs.of_ty_instance.Going.{longer}
use Rattle.elab_state.proofs.of_ty_instance.Putting.{on-ok}
use Rattle.elab_steps.proofs.Changing.{freshened_grows, freshened_is, freshened_within, new-limited, written_later, begins-of}
use Rattle.elab_steps.proofs.step.fresh_type.Goals as goal

pub invariant_of-state-2 : goal.invariant_of-state-2
invariant_of-state-2 c =
    let s = c.args.state.now in
    let ts = s.solver.subst.types in
    record {
      held = written_later (length ts) (length c.variable.new.self.subst.types) (length s.namings.items) s.written.items
          (longer ts c.variable.new.self.subst.types (begins-of ts c.fresh.new.self.subst.types c.variable.new.self.subst.types c.in_ok-v.ensures.types c.variable.ensures.earlier_stay)) s.held;
      ordered = s.ordered;
      rows = s.rows;
    }

pub returns-clause-grows : goal.returns-clause-grows
returns-clause-grows c =
    on-ok c.variable.result (λ r e. freshened_grows c.args.state.now _ c.fresh.new.self.subst (Open c.args.mark) c.args.limit c.in_ok-v.v r (record {
      stays = record { written = refl; namings = refl; tables = refl; next = refl; level = refl };
      mid_types = c.in_ok-v.ensures.types;
      mid_slots = c.in_ok-v.ensures.marked;
      limits = c.variable.ensures.limits ∙ c.in_ok-v.ensures.limited;
      types = c.variable.ensures.earlier_stay;
      slots = c.variable.ensures.slots;
      says = c.variable.ensures.says;
      number = c.in_ok-v.ensures.next;
      is = e;
      deep = c.requires.deep;
      inside = c.requires.inside;
    })) c.variable.ensures.held

pub returns-clause-is : goal.returns-clause-is
returns-clause-is c =
    on-ok c.variable.result (λ r e. freshened_is c.args.state.now _ c.fresh.new.self.subst (Open c.args.mark) c.args.limit c.in_ok-v.v r (record {
      stays = record { written = refl; namings = refl; tables = refl; next = refl; level = refl };
      mid_types = c.in_ok-v.ensures.types;
      mid_slots = c.in_ok-v.ensures.marked;
      limits = c.variable.ensures.limits ∙ c.in_ok-v.ensures.limited;
      types = c.variable.ensures.earlier_stay;
      slots = c.variable.ensures.slots;
      says = c.variable.ensures.says;
      number = c.in_ok-v.ensures.next;
      is = e;
      deep = c.requires.deep;
      inside = c.requires.inside;
    })) c.variable.ensures.held

pub returns-clause-within : goal.returns-clause-within
returns-clause-within c =
    on-ok c.variable.result (λ r e. freshened_within c.args.state.now _ c.fresh.new.self.subst (Open c.args.mark) c.args.limit c.in_ok-v.v r (record {
      stays = record { written = refl; namings = refl; tables = refl; next = refl; level = refl };
      mid_types = c.in_ok-v.ensures.types;
      mid_slots = c.in_ok-v.ensures.marked;
      limits = c.variable.ensures.limits ∙ c.in_ok-v.ensures.limited;
      types = c.variable.ensures.earlier_stay;
      slots = c.variable.ensures.slots;
      says = c.variable.ensures.says;
      number = c.in_ok-v.ensures.next;
      is = e;
      deep = c.requires.deep;
      inside = c.requires.inside;
    })) c.variable.ensures.held

pub returns-clause-limited : goal.returns-clause-limited
returns-clause-limited c =
    let s = c.args.state.now.solver in
    on-ok c.variable.result (λ r e. new-limited s.limits.items c.variable.new.self.limits.items c.variable.new.self.subst.types c.args.limit (length s.subst.slots.items) c.in_ok-v.v r
    (c.variable.ensures.limits ∙ c.in_ok-v.ensures.limited) s.each_has_one c.in_ok-v.ensures.next e) c.variable.ensures.held
