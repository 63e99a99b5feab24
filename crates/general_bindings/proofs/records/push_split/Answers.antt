use Rattle.general_bindings.proofs.Rows.{index-own}
use Rattle.general_bindings.proofs.Splitting.{split-none, split-more, split-next, split-made, split-puts}
use Rattle.general_bindings.proofs.records.push_split.Goals as goal

pub loop-i-init : goal.loop-i-init
loop-i-init c = split-none _ _ c.args.parameters c.args.record_at c.args.ty c.args.spots.now _ c.new-made.ensures.items

pub loop-i-preserved : goal.loop-i-preserved
loop-i-preserved c =
    let e = c.in_ok-spot.ensures in
    split-more _ c.loop-i.work _ _ c.loop-i.steps.items _ c.args.parameters c.args.record_at c.args.ty c.args.spots.now c.loop-i.i _ c.in_ok-spot.spot c.loop-i.made.items _ c.loop-i-test.true (index-own c.args.spots.now c.loop-i.i _ c.loop-i-test.true)
    c.loop-i.invariant e.keeps e.next e.variable e.number e.ty c.in_ok-push.ensures.items e.puts

pub returns-clause-next : goal.returns-clause-next
returns-clause-next c = split-next _ c.loop-i.work _ _ c.args.parameters c.args.record_at c.args.ty c.args.spots.now c.loop-i.i c.loop-i.made.items c.loop-i-test.false c.loop-i.invariant

pub returns-clause-keeps : goal.returns-clause-keeps
returns-clause-keeps c = c.loop-i.invariant.keeps

pub returns-clause-found : goal.returns-clause-found
returns-clause-found c = split-made _ c.loop-i.work _ _ c.args.parameters c.args.record_at c.args.ty c.args.spots.now c.loop-i.i c.loop-i.made.items c.loop-i-test.false c.loop-i.invariant

pub returns-clause-puts : goal.returns-clause-puts
returns-clause-puts c = split-puts _ c.loop-i.work _ _ c.args.parameters c.args.record_at c.args.ty c.args.spots.now c.loop-i.i c.loop-i.made.items c.loop-i-test.false c.loop-i.invariant
