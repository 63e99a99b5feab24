use Rattle.std.proofs.Common.{arith}
use Rattle.mono_uses.proofs.Parts.{part-none, part-next}
use Rattle.mono_uses.proofs.label.part_at.Goals as goal

pub returns-then-i-parts : goal.returns-then-i-parts
returns-then-i-parts c = part-none c.args.label.now c.args.labels.now c.args.parts.now c.loop-i.i (omega arith) c.loop-i.invariant

pub loop-i-preserved : goal.loop-i-preserved
loop-i-preserved c = part-next c.args.label.now c.args.labels.now c.args.parts.now c.loop-i.i c.index-labels-i.result c.is_label-same.result c.loop-i-test.true (omega arith) c.index-labels-i.is c.is_label-same.ensures c.if-same.false c.loop-i.invariant
