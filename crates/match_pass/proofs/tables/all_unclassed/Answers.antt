use Rattle.std.proofs.Common.{ap, map}
use Rattle.match_pass.proofs.Tabled.{lists-step, lists-end}
use Rattle.match_pass.proofs.tables.all_unclassed.Goals as goal

pub loop-i-init : goal.loop-i-init
loop-i-init c = ap (map (λ p. p.items)) c.new-made.ensures.items

pub loop-i-preserved : goal.loop-i-preserved
loop-i-preserved c =
    lists-step c.args.lists.now c.loop-i.made.items _ c.loop-i.i c.index-lists-i.result c.in_ok-next.next c.deref.result.now c.loop-i-test.true c.index-lists-i.is c.loop-i.invariant c.in_ok-next.ensures c.deref.ensures.value
    c.in_ok-push.ensures.items

pub returns : goal.returns
returns c = lists-end c.args.lists.now c.loop-i.made.items c.loop-i.i c.loop-i-test.false c.loop-i.invariant
