use Rattle.std.proofs.Common.{ap, ◌∙◌}
use Rattle.ty_solve.specs.Lowering.{undo_limits}
use Rattle.ty_solve.specs.Said.{said}
use Rattle.ty_solve.specs.Limits.{limit_at}
use Rattle.ty_solve.proofs.Solvable.{solvable-over}
use Rattle.ty_solve.proofs.Limiting.{limited-is}
use Rattle.ty_solve.proofs.solver.Solver.unify.Goals as goal

pub returns-in-Ok-clause-solvable : goal.returns-in-Ok-clause-solvable
returns-in-Ok-clause-solvable c = let s = c.within.new.s in solvable-over (said s) s.acyclic s.inhabited (limit_at c.within.new.limits.items) c.in-Ok.ensures.settled.limited (c.in-Ok.ensures.settled.wide c.args.self.now.wide)

pub invariant_of-self-in-Err-2 : goal.invariant_of-self-in-Err-2
invariant_of-self-in-Err-2 c =
    let s = c.args.self.now in
    let g = limited-is _ _ _ _ _ _ c.within.ensures.types (c.put_back.ensures ∙ c.within.ensures.undone) (c.put_back_limits.ensures ∙ c.within.ensures.undone_limits ∙ ap (λ d. undo_limits d s.limits.items) c.new-kept.ensures.items) (record { each = s.each_has_one; limited = s.limited; wide = s.wide }) in
    record { each_has_one = g.each; limited = g.limited; wide = g.wide }
