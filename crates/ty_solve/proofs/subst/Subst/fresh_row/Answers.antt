use Rattle.std.proofs.Common.{length, is_ok}
use Rattle.ty_solve.proofs.Holding.{held-row}
use Rattle.ty_solve.proofs.Slots.{grown-by-row}
use Rattle.ty_solve.proofs.subst.Subst.fresh_row.Goals as goal

pub invariant_of-self : goal.invariant_of-self
invariant_of-self c =
    let s = c.args.self.now in
    let g = grown-by-row s.types (is_ok c.push.result) c.args.row s.slots.items c.push.new.self.items c.push.ensures.items c.requires.fit s.below s.acyclic s.inhabited in
    record { held = held-row (length s.types) (is_ok c.push.result) c.args.row s.slots.items c.push.new.self.items c.push.ensures.items c.requires.held s.held; below = g.below; acyclic = g.acyclic; inhabited = g.inhabited }
