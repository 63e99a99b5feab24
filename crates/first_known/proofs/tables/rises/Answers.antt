use Rattle.std.proofs.Common.{arith}
use Rattle.first_known.proofs.TableLemmas.{rise-more}
use Rattle.first_known.proofs.tables.rises.Goals as goal

pub loop-i-preserved : goal.loop-i-preserved
loop-i-preserved c = rise-more c.args.set.now c.loop-i.i _ _ c.loop-i.all c.both-all.result c.loop-i.auto.i c.loop-i-test.true c.loop-i.invariant c.both-all.ensures
