use Rattle.match_pass.proofs.Tabled.{unclassed-step, unclassed-end}
use Rattle.match_pass.proofs.tables.unclassed.Goals as goal

pub loop-i-init : goal.loop-i-init
loop-i-init c = c.new-made.ensures.items

pub loop-i-preserved : goal.loop-i-preserved
loop-i-preserved c =
    unclassed-step c.args.all.now c.loop-i.made.items _ c.loop-i.i _ c.unclassed_one.result c.loop-i-test.true c.loop-i.invariant c.unclassed_one.ensures c.in_ok-push.ensures.items

pub returns : goal.returns
returns c = unclassed-end c.args.all.now c.loop-i.made.items c.loop-i.i c.loop-i-test.false c.loop-i.invariant
