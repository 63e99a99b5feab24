use Rattle.std.proofs.Common.{length, ap, ◌∙◌, arith}
use Rattle.ty_solve.proofs.Falling.{snoc-length}
use Rattle.ty_solve.proofs.Limiting.{limited-is, limited-by-row, first-of}
use Rattle.ty_solve.proofs.solver.Solver.fresh_row.Goals as goal

pub invariant_of-self-in-Ok-1 : goal.invariant_of-self-in-Ok-1
invariant_of-self-in-Ok-1 c =
    let s = c.args.self.now in
    let g = limited-is _ _ _ _ _ _ c.in-Ok.ensures.types c.in-Ok.ensures.known c.in_ok-push.ensures.items (limited-by-row s.subst.types s.subst.slots.items s.limits.items c.args.row c.args.limit s.subst.below c.requires.wide c.requires.fit.below c.requires.within (record { each = s.each_has_one; limited = s.limited; wide = s.wide })) in
    record { each_has_one = g.each; limited = g.limited; wide = g.wide }

pub invariant_of-self-in-Err : goal.invariant_of-self-in-Err
invariant_of-self-in-Err c =
    let s = c.args.self.now in
    let n = ap length c.in_ok-push.ensures.items ∙ snoc-length s.limits.items c.args.limit in
    let e = c.pop.ensures.rest ∙ first-of _ s.limits.items _ c.args.limit c.in_ok-push.ensures.items (omega (arith, n, c.push.new.self.ok.0)) in
    let g = limited-is _ _ _ _ _ _ c.in-Err.ensures.types c.in-Err.ensures.err e (record { each = s.each_has_one; limited = s.limited; wide = s.wide }) in
    record { each_has_one = g.each; limited = g.limited; wide = g.wide }
