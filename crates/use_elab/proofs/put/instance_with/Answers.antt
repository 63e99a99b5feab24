use Rattle.std.proofs.Common.{length, refl}
use Rattle.ty_instance.proofs.Going.{longer}
use Rattle.elab_context.proofs.of_elab_steps.Changing.{if-ok, parts_held, tabled_grows, written_later}
use Rattle.use_elab.proofs.Putting.{instanced_is, instanced_has}
use Rattle.use_elab.proofs.put.instance_with.Goals as goal

pub instance_within-requires-clause-images : goal.instance_within-requires-clause-images
instance_within-requires-clause-images c = parts_held c.args.state.now c.args.images.now c.requires.images

pub invariant_of-state : goal.invariant_of-state
invariant_of-state c =
    let s = c.args.state.now in
    let ts = s.solver.subst.types in
    record {
      held = written_later (length ts) (length c.instance_within.new.solver.subst.types) (length s.namings.items) s.written.items
          (longer ts c.instance_within.new.solver.subst.types c.instance_within.ensures.earlier_stay) s.held;
      ordered = s.ordered;
      rows = s.rows;
    }

pub returns-clause-grows : goal.returns-clause-grows
returns-clause-grows c =
    if-ok c.instance_within.result (λ r e. tabled_grows c.args.state.now _ (record {
      stays = record { written = refl; namings = refl; tables = refl; next = refl; level = refl };
      types = c.instance_within.ensures.earlier_stay;
      slots = c.instance_within.ensures.slots;
      limits = c.instance_within.ensures.limits;
      says = c.instance_within.ensures.says;
    })) c.instance_within.ensures.is

pub returns-clause-is : goal.returns-clause-is
returns-clause-is c =
    if-ok c.instance_within.result (λ r e. instanced_is c.args.state.now _ c.args.body c.args.images.now r (record {
      tabled = record {
        stays = record { written = refl; namings = refl; tables = refl; next = refl; level = refl };
        types = c.instance_within.ensures.earlier_stay;
        slots = c.instance_within.ensures.slots;
        limits = c.instance_within.ensures.limits;
        says = c.instance_within.ensures.says;
      };
      is = e;
    }) c.requires.closed c.requires.images) c.instance_within.ensures.is

pub returns-clause-has : goal.returns-clause-has
returns-clause-has c =
    if-ok c.instance_within.result (λ r e. instanced_has c.args.state.now _ c.args.body c.args.images.now r (record {
      tabled = record {
        stays = record { written = refl; namings = refl; tables = refl; next = refl; level = refl };
        types = c.instance_within.ensures.earlier_stay;
        slots = c.instance_within.ensures.slots;
        limits = c.instance_within.ensures.limits;
        says = c.instance_within.ensures.says;
      };
      is = e;
    }) c.requires.body c.requires.closed c.requires.images) c.instance_within.ensures.is
