use Rattle.elab_types.proofs.of_ty_solve.Holding.{table-grown}
use Rattle.elab_steps.proofs.annotate.annotation_in.Goals as goal

pub returns-clause-says : goal.returns-clause-says
returns-clause-says c =
    (table-grown c.args.s.now.types c.annotation.new.types c.args.s.now.slots.items c.annotation.ensures.earlier_stay c.args.s.now.held c.args.s.now.below c.args.s.now.acyclic c.args.s.now.inhabited).says

pub invariant_of-s : goal.invariant_of-s
invariant_of-s c =
    let g = table-grown c.args.s.now.types c.annotation.new.types c.args.s.now.slots.items c.annotation.ensures.earlier_stay c.args.s.now.held c.args.s.now.below c.args.s.now.acyclic c.args.s.now.inhabited in
    record { held = g.held; below = g.below; acyclic = g.acyclic; inhabited = g.inhabited }
