use Rattle.ir_known.proofs.Pairs.{zip-all}
use Rattle.ir_known.proofs.image.push_pairs.Goals as goal

pub loop-i-preserved : goal.loop-i-preserved
loop-i-preserved c = zip-all c.args.parts.now c.args.others.now c.loop-i.i _ _ c.args.pending.now.items c.loop-i.pending.items c.push.new.self.items c.loop-i-test.true c.requires c.loop-i.invariant c.in_ok-push.ensures.items
