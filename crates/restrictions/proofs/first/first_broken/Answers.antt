use Rattle.restrictions.proofs.Firsts.{first-here, if-some}
use Rattle.restrictions.proofs.first.first_broken.Goals as goal

pub returns-then-is_some-clause-some : goal.returns-then-is_some-clause-some
returns-then-is_some-clause-some c =
    if-some c.in_ok-broken.broken
    (λ p h. first-here c.args.declarations.now c.loop-i.i c.index-declarations-i.result p c.loop-i-test.true c.index-declarations-i.is c.loop-i.invariant h) c.in_ok-broken.ensures.some
