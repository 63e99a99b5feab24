use Rattle.prog_binders.proofs.Tally.{one-more, one-twice}
use Rattle.prog_binders.proofs.once.are_once.Goals as goal

pub returns-then-not-new : goal.returns-then-not-new
returns-then-not-new c = one-twice c.args.numbers.now c.loop-i.seen.keys c.loop-i.i _ c.in_ok-new.new c.loop-i-test.true c.loop-i.invariant c.in_ok-new.ensures.added c.if-not-new.true

pub loop-i-preserved : goal.loop-i-preserved
loop-i-preserved c = one-more c.args.numbers.now c.loop-i.seen.keys c.insert.new.self.keys c.loop-i.i _ c.in_ok-new.new c.loop-i-test.true c.loop-i.invariant c.in_ok-new.ensures.added c.in_ok-new.ensures.keys c.if-not-new.false
