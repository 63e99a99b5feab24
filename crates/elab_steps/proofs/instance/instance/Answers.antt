use Rattle.std.proofs.Common.{length, refl}
use Rattle.elab_state.proofs.of_ty_instance.Going.{longer}
use Rattle.elab_steps.proofs.Changing.{written_later}
use Rattle.elab_steps.proofs.Instancing.{instanced_grows, instanced_is, instanced_instance}
use Rattle.elab_steps.proofs.instance.instance.Goals as goal

pub invariant_of-state : goal.invariant_of-state
invariant_of-state c =
    let s = c.args.state.now in
    let ts = s.solver.subst.types in
    record {
      held = written_later (length ts) (length c.instantiate_fresh.new.solver.subst.types) (length s.namings.items) s.written.items
          (longer ts c.instantiate_fresh.new.solver.subst.types c.instantiate_fresh.ensures.earlier_stay) s.held;
      ordered = s.ordered;
      rows = s.rows;
    }

pub returns-clause-grows : goal.returns-clause-grows
returns-clause-grows c = instanced_grows c.args.state.now _ c.args.marks.now c.args.body c.args.limit c.in_ok-ty.ty (record {
  stays = record { written = refl; namings = refl; tables = refl; next = refl; level = refl };
  types = c.instantiate_fresh.ensures.earlier_stay;
  slots = c.in_ok-ty.ensures.marked;
  limits = c.in_ok-ty.ensures.limited;
  says = c.in_ok-ty.ensures.says;
  known = c.in_ok-ty.ensures.known;
  is = c.in_ok-ty.ensures.is;
  deep = c.requires.deep;
  inside = c.requires.inside;
})

pub returns-clause-is : goal.returns-clause-is
returns-clause-is c = instanced_is c.args.state.now _ c.args.marks.now c.args.body c.args.limit c.in_ok-ty.ty (record {
  stays = record { written = refl; namings = refl; tables = refl; next = refl; level = refl };
  types = c.instantiate_fresh.ensures.earlier_stay;
  slots = c.in_ok-ty.ensures.marked;
  limits = c.in_ok-ty.ensures.limited;
  says = c.in_ok-ty.ensures.says;
  known = c.in_ok-ty.ensures.known;
  is = c.in_ok-ty.ensures.is;
  deep = c.requires.deep;
  inside = c.requires.inside;
}) c.requires.scheme

pub returns-clause-instance : goal.returns-clause-instance
returns-clause-instance c = instanced_instance c.args.state.now _ c.args.marks.now c.args.body c.args.limit c.in_ok-ty.ty (record {
  stays = record { written = refl; namings = refl; tables = refl; next = refl; level = refl };
  types = c.instantiate_fresh.ensures.earlier_stay;
  slots = c.in_ok-ty.ensures.marked;
  limits = c.in_ok-ty.ensures.limited;
  says = c.in_ok-ty.ensures.says;
  known = c.in_ok-ty.ensures.known;
  is = c.in_ok-ty.ensures.is;
  deep = c.requires.deep;
  inside = c.requires.inside;
}) c.requires.scheme
