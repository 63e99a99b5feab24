use Rattle.restrictions.specs.Written.{data_places}
use Rattle.restrictions.proofs.Standing.{comes-first, comes-last, comes-next}
use Rattle.restrictions.proofs.datas.of_datas.Goals as goal

pub loop-i-init : goal.loop-i-init
loop-i-init c bs r = comes-first (data_places bs) c.args.datas.now c.args.found.now.items

pub loop-i-preserved : goal.loop-i-preserved
loop-i-preserved c bs r =
    comes-next (data_places bs) c.args.datas.now c.loop-i.i c.index-datas-i.result c.args.found.now.items c.loop-i.found.items _ c.loop-i-test.true c.index-datas-i.is (c.loop-i.invariant bs r)
    (c.in_ok-of_data.ensures bs r)

pub returns : goal.returns
returns c bs r = comes-last (data_places bs) c.args.datas.now c.loop-i.i c.args.found.now.items c.loop-i.found.items c.loop-i-test.false (c.loop-i.invariant bs r)
