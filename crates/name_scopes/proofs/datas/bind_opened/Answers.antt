use Rattle.name_scopes.proofs.Opening.{opens-last, opens-next}
use Rattle.name_scopes.proofs.datas.bind_opened.Goals as goal

pub loop-i-preserved : goal.loop-i-preserved
loop-i-preserved c =
    opens-next c.args.scope.now c.loop-i.scope _ c.args.longs.now c.loop-i.i c.index-longs-i.result c.loop-i-test.true c.index-longs-i.is c.loop-i.invariant
    c.in_ok-bind_structure.ensures

pub returns-after-loop-i : goal.returns-after-loop-i
returns-after-loop-i c = opens-last c.args.scope.now c.loop-i.scope c.args.longs.now c.loop-i.i c.loop-i-test.false c.if-are_structures.ensures c.loop-i.invariant
