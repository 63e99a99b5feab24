use Rattle.std.proofs.Common.{◌∙◌, ap, sym}
use Rattle.ty_solve.specs.Lowering.{undo_limits}
use Rattle.ty_solve.proofs.Falling.{undo-last}
use Rattle.ty_solve.proofs.lower.put_back_limits.Goals as goal

pub loop-last-preserved : goal.loop-last-preserved
loop-last-preserved c = ap (undo_limits c.pop.new.self.items) c.restore.ensures ∙ sym (undo-last c.pop.new.self.items c.in-Some.last c.loop-last.limits.items) ∙ ap (λ d. undo_limits d c.loop-last.limits.items) (sym c.in-Some.ensures.items) ∙ c.loop-last.invariant
