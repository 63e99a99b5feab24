use Rattle.ty_solve.proofs.Holding.{table-grown}
use Rattle.ty_solve.proofs.subst.Subst.variable.Goals as goal

pub returns-clause-says : goal.returns-clause-says
returns-clause-says c = (table-grown c.args.self.now.types c.variable.new.self c.args.self.now.slots.items c.variable.ensures.earlier_stay c.args.self.now.held c.args.self.now.below c.args.self.now.acyclic c.args.self.now.inhabited).says

pub invariant_of-self : goal.invariant_of-self
invariant_of-self c =
    let g = table-grown c.args.self.now.types c.variable.new.self c.args.self.now.slots.items c.variable.ensures.earlier_stay c.args.self.now.held c.args.self.now.below c.args.self.now.acyclic c.args.self.now.inhabited in
    record { held = g.held; below = g.below; acyclic = g.acyclic; inhabited = g.inhabited }
