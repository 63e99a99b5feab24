use Rattle.std.proofs.Common.{◌∙◌}
use Rattle.emit_known.proofs.Writing.{no-text}
use Rattle.emit_known.proofs.texts.reach.Goals as goal

pub loop-alloc-preserved : goal.loop-alloc-preserved
loop-alloc-preserved c = λ i. no-text c.loop-alloc.texts.items c.push.new.self.items c.new.result c.in_ok-push.ensures.items c.new.ensures.items i ∙ c.loop-alloc.invariant i
