use Rattle.std.proofs.Common.{length, refl, ◌∙◌}
use Rattle.ty_solve.specs.declared.subst.Slot.TheVariants.{Open}
use Rattle.ty_instance.proofs.Going.{longer}
use Rattle.ty_instance.proofs.Putting.{on-ok}
use Rattle.elab_context.proofs.of_elab_steps.Changing.{freshened_grows, freshened_is, written_later, begins-of}
use Rattle.use_elab.proofs.Making.{freshened_fresh}
use Rattle.use_elab.proofs.fresh.marked_type.Goals as goal

pub invariant_of-state-2 : goal.invariant_of-state-2
invariant_of-state-2 c =
    let s = c.args.state.now in
    let ts = s.solver.subst.types in
    record {
      held = written_later (length ts) (length c.variable.new.self.subst.types) (length s.namings.items) s.written.items
          (longer ts c.variable.new.self.subst.types (begins-of ts c.fresh.new.self.subst.types c.variable.new.self.subst.types c.in_ok-v.ensures.types c.variable.ensures.earlier_stay)) s.held;
      ordered = s.ordered;
      rows = s.rows;
    }

pub returns-clause-grows : goal.returns-clause-grows
returns-clause-grows c =
    on-ok c.variable.result (λ r e. freshened_grows c.args.state.now _ c.fresh.new.self.subst (Open c.args.mark) c.args.limit c.in_ok-v.v r (record {
      stays = record { written = refl; namings = refl; tables = refl; next = refl; level = refl };
      mid_types = c.in_ok-v.ensures.types;
      mid_slots = c.in_ok-v.ensures.marked;
      limits = c.variable.ensures.limits ∙ c.in_ok-v.ensures.limited;
      types = c.variable.ensures.earlier_stay;
      slots = c.variable.ensures.slots;
      says = c.variable.ensures.says;
      number = c.in_ok-v.ensures.next;
      is = e;
      deep = c.requires.deep;
      inside = c.requires.inside;
    })) c.variable.ensures.held

pub returns-clause-is : goal.returns-clause-is
returns-clause-is c =
    on-ok c.variable.result (λ r e. freshened_is c.args.state.now _ c.fresh.new.self.subst (Open c.args.mark) c.args.limit c.in_ok-v.v r (record {
      stays = record { written = refl; namings = refl; tables = refl; next = refl; level = refl };
      mid_types = c.in_ok-v.ensures.types;
      mid_slots = c.in_ok-v.ensures.marked;
      limits = c.variable.ensures.limits ∙ c.in_ok-v.ensures.limited;
      types = c.variable.ensures.earlier_stay;
      slots = c.variable.ensures.slots;
      says = c.variable.ensures.says;
      number = c.in_ok-v.ensures.next;
      is = e;
      deep = c.requires.deep;
      inside = c.requires.inside;
    })) c.variable.ensures.held

pub returns-clause-fresh : goal.returns-clause-fresh
returns-clause-fresh c =
    on-ok c.variable.result (λ r e. freshened_fresh c.args.state.now _ c.fresh.new.self.subst c.args.mark c.args.limit c.in_ok-v.v r (record {
      stays = record { written = refl; namings = refl; tables = refl; next = refl; level = refl };
      mid_types = c.in_ok-v.ensures.types;
      mid_slots = c.in_ok-v.ensures.marked;
      limits = c.variable.ensures.limits ∙ c.in_ok-v.ensures.limited;
      types = c.variable.ensures.earlier_stay;
      slots = c.variable.ensures.slots;
      says = c.variable.ensures.says;
      number = c.in_ok-v.ensures.next;
      is = e;
      deep = c.requires.deep;
      inside = c.requires.inside;
    })) c.variable.ensures.held
