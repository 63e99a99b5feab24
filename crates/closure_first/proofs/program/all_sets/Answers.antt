use Rattle.closure_first.proofs.Listing.{sets-next, sets-all}
use Rattle.closure_first.proofs.program.all_sets.Goals as goal

pub loop-i-preserved : goal.loop-i-preserved
loop-i-preserved c = λ types strings n F T h.
    sets-next n c.args.given.now c.loop-i.i c.index-given-i.result c.index-given-i.result c.deref.result.now c.loop-i.made.items c.push.new.self.items c.in_ok-next.next c.loop-i-test.true c.index-given-i.is c.deref.ensures.value
    (c.in_ok-next.ensures types strings n F T h) c.in_ok-push.ensures.items (c.loop-i.invariant types strings n F T h)

pub returns : goal.returns
returns c = λ types strings n F T h. sets-all n c.args.given.now c.loop-i.i c.loop-i.made.items c.loop-i-test.false (c.loop-i.invariant types strings n F T h)
