use Rattle.std.proofs.Common.{add-one, rules, ◌≡◌, ◌<◌, true, subst}
use Rattle.back_end.proofs.Naming.{one-more, at-end}
use Rattle.back_end.proofs.named.are_below.Goals as goal

pub loop-i-preserved : goal.loop-i-preserved
loop-i-preserved c =
    let yes : c.is_below.result ≡ true = search rules in
    rw add-one (one-more (λ i. i < c.args.limit) c.args.identifiers.now c.loop-i.i c.index-identifiers-i.result c.loop-i-test.true c.loop-i.invariant (subst (λ i. i < c.args.limit) c.index-identifiers-i.is (c.is_below.ensures yes)))

pub returns : goal.returns
returns c = λ _. at-end (λ i. i < c.args.limit) c.args.identifiers.now c.loop-i.i c.loop-i-test.false c.loop-i.invariant
