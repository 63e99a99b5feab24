use Rattle.std.proofs.Common.{map, take, ◌+◌}
use Rattle.first_tree.specs.TreeOf.{step_of}
use Rattle.first_form.proofs.ScopedLemmas.{seen, exp-misses, last-misses}
use Rattle.first_form.proofs.whole.+misses.Goals as goal

pub may_miss-returns-in-Steps : goal.may_miss-returns-in-Steps
may_miss-returns-in-Steps t c =
    exp-misses c.args.e.now c.in-Steps.steps c.in-Steps.rest c.deref.result.now c.deref-in-Steps.result.now c.either.result c.any_may_miss.result c.may_miss.result c.in-Steps.is
    c.deref.ensures.value c.deref-in-Steps.ensures c.either.ensures c.any_may_miss.ensures c.may_miss.ensures

pub any_may_miss-loop-i-preserved : goal.any_may_miss-loop-i-preserved
any_may_miss-loop-i-preserved t c =
    last-misses (map step_of (take c.loop-i.i c.args.steps.now)) (map step_of (take (c.loop-i.i + 1) c.args.steps.now)) (step_of c.index-steps-i.result) c.either-any.result c.loop-i.any
    c.other_may_miss-here.result (seen step_of c.args.steps.now c.loop-i.i c.index-steps-i.result c.index-steps-i.result c.loop-i-test.true c.index-steps-i.is) c.either-any.ensures
    c.loop-i.invariant c.other_may_miss-here.ensures
