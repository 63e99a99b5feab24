use Rattle.std.proofs.Common.{length, refl, sym, ap, ◌∙◌}
use Rattle.std.proofs.lemmas.List.{length-map}
use Rattle.ty_core.specs.declared.scheme.Quantified.{Quantified}
use Rattle.ty_instance.proofs.Going.{longer}
use Rattle.elab_context.proofs.of_elab_steps.Changing.{if-ok, parts_held, tabled_grows, written_later}
use Rattle.use_elab.proofs.Putting.{putted_is, putted_has}
use Rattle.use_elab.proofs.put.put_with.Goals as goal

pub put_within-requires-clause-images : goal.put_within-requires-clause-images
put_within-requires-clause-images c = parts_held c.args.state.now c.args.images.now c.requires.images

pub put_within-requires-clause-each_has_one : goal.put_within-requires-clause-each_has_one
put_within-requires-clause-each_has_one c =
    c.requires.each_has_one ∙ sym (length-map c.args.parameters.now (λ (q : Quantified). q.variable)) ∙ sym (ap length (c.deref.ensures.value ∙ c.in_ok-variables.ensures))

pub invariant_of-state : goal.invariant_of-state
invariant_of-state c =
    let s = c.args.state.now in
    let ts = s.solver.subst.types in
    record {
      held = written_later (length ts) (length c.put_within.new.solver.subst.types) (length s.namings.items) s.written.items
          (longer ts c.put_within.new.solver.subst.types c.put_within.ensures.earlier_stay) s.held;
      ordered = s.ordered;
      rows = s.rows;
    }

pub returns-clause-grows : goal.returns-clause-grows
returns-clause-grows c =
    if-ok c.put_within.result (λ r e. tabled_grows c.args.state.now _ (record {
      stays = record { written = refl; namings = refl; tables = refl; next = refl; level = refl };
      types = c.put_within.ensures.earlier_stay;
      slots = c.put_within.ensures.slots;
      limits = c.put_within.ensures.limits;
      says = c.put_within.ensures.says;
    })) c.put_within.ensures.is

pub returns-clause-is : goal.returns-clause-is
returns-clause-is c =
    if-ok c.put_within.result (λ r e. putted_is c.args.state.now _ c.args.body c.args.parameters.now c.deref.result.now c.args.images.now r (record {
      tabled = record {
        stays = record { written = refl; namings = refl; tables = refl; next = refl; level = refl };
        types = c.put_within.ensures.earlier_stay;
        slots = c.put_within.ensures.slots;
        limits = c.put_within.ensures.limits;
        says = c.put_within.ensures.says;
      };
      is = e;
    }) (c.deref.ensures.value ∙ c.in_ok-variables.ensures) c.requires.each_has_one c.requires.body c.requires.images) c.put_within.ensures.is

pub returns-clause-has : goal.returns-clause-has
returns-clause-has c =
    if-ok c.put_within.result (λ r e. putted_has c.args.state.now _ c.args.body c.args.parameters.now c.deref.result.now c.args.images.now r (record {
      tabled = record {
        stays = record { written = refl; namings = refl; tables = refl; next = refl; level = refl };
        types = c.put_within.ensures.earlier_stay;
        slots = c.put_within.ensures.slots;
        limits = c.put_within.ensures.limits;
        says = c.put_within.ensures.says;
      };
      is = e;
    }) (c.deref.ensures.value ∙ c.in_ok-variables.ensures) c.requires.body c.requires.images) c.put_within.ensures.is
