use Rattle.std.proofs.Common.{◌∙◌, ap, sym}
use Rattle.ty_solve.specs.Solve.{undo}
use Rattle.ty_solve.proofs.Changing.{undo-push}
use Rattle.ty_solve.proofs.trail.put_back.Goals as goal

pub loop-kept-preserved : goal.loop-kept-preserved
loop-kept-preserved c = ap (undo c.pop.new.self.items) c.restore.ensures ∙ sym (undo-push c.pop.new.self.items c.in-Some.kept c.loop-kept.slots.items) ∙ ap (λ d. undo d c.loop-kept.slots.items) (sym c.in-Some.ensures.items) ∙ c.loop-kept.invariant
