use Rattle.std.proofs.Common.{length}
use Rattle.ty_solve.proofs.Holding.{held-fresh}
use Rattle.std.proofs.Common.{is_ok}
use Rattle.ty_solve.proofs.Slots.{grown}
use Rattle.ty_solve.proofs.subst.Subst.fresh.Goals as goal

pub invariant_of-self : goal.invariant_of-self
invariant_of-self c =
    let g = grown c.args.self.now.types (is_ok c.push.result) c.args.mark c.args.self.now.slots.items c.push.new.self.items c.push.ensures.items c.requires c.args.self.now.below c.args.self.now.acyclic c.args.self.now.inhabited in
    record { held = held-fresh (length c.args.self.now.types) (is_ok c.push.result) c.args.mark c.args.self.now.slots.items c.push.new.self.items c.push.ensures.items c.args.self.now.held; below = g.below; acyclic = g.acyclic; inhabited = g.inhabited }
