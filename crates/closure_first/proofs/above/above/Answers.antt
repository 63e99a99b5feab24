use Rattle.closure_bodies.proofs.of_closure_parts.Operating.{if-ok}
use Rattle.closure_first.proofs.Least.{above-is}
use Rattle.closure_first.proofs.above.above.Goals as goal

pub returns : goal.returns
returns c =
    if-ok _ _ c.above_all.result
    (λ n h strings.
    above-is c.args.types.now strings c.args.body.now c.new-found.result.items c.push_bound.new.found.items c.deref.result.now n c.new-found.ensures.items c.in_ok-push_bound.ensures c.deref.ensures.value h
    (c.bound_is_bound.ensures c.args.types.now strings c.args.body.now))
    c.above_all.ensures
