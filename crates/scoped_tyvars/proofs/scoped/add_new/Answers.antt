use Rattle.scoped_tyvars.proofs.New.{all-added, none-added, one-added}
use Rattle.scoped_tyvars.proofs.scoped.add_new.Goals as goal

pub loop-i-init : goal.loop-i-init
loop-i-init c names h = none-added c.args.around.now names c.args.occurring.now c.args.scoped.now.items c.args.noted.now h

pub loop-i-preserved : goal.loop-i-preserved
loop-i-preserved c names h =
    one-added c.args.around.now names c.args.occurring.now c.loop-i.i c.index-occurring-i.result c.args.scoped.now.items c.loop-i.scoped.items _ c.loop-i.noted _ c.loop-i-test.true
    c.index-occurring-i.is (c.loop-i.invariant names h) c.in_ok-add_if_new.ensures

pub returns : goal.returns
returns c names h =
    all-added c.args.around.now names c.args.occurring.now c.loop-i.i c.args.scoped.now.items c.loop-i.scoped.items c.loop-i.noted c.loop-i-test.false (c.loop-i.invariant names h)
