use Rattle.ty_solve.proofs.Holding.{table-grown}
use Rattle.datatype_forms.proofs.closed.variables_in.Goals as goal

pub returns-clause-says : goal.returns-clause-says
returns-clause-says c =
    (table-grown c.args.s.now.types c.variables_at.new.types c.args.s.now.slots.items c.variables_at.ensures.earlier_stay c.args.s.now.held c.args.s.now.below c.args.s.now.acyclic c.args.s.now.inhabited).says

pub invariant_of-s : goal.invariant_of-s
invariant_of-s c =
    let g = table-grown c.args.s.now.types c.variables_at.new.types c.args.s.now.slots.items c.variables_at.ensures.earlier_stay c.args.s.now.held c.args.s.now.below c.args.s.now.acyclic c.args.s.now.inhabited in
    record { held = g.held; below = g.below; acyclic = g.acyclic; inhabited = g.inhabited }
