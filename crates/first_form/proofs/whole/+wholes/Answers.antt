use Rattle.std.proofs.Common.{map}
use Rattle.first_tree.specs.TreeOf.{step_of, arm_of, ArmTree}
use Rattle.ir_first.specs.Whole.{HasWhole}
use Rattle.first_form.specs.Scoped.{StepHasWhole}
use Rattle.first_known.proofs.Flags.{iff-along}
use Rattle.first_form.proofs.ScopedLemmas.{all-mapped-more, all-mapped-ends, all-whole, arms-whole, arm-whole, exp-whole}
use Rattle.first_form.proofs.whole.+wholes.Goals as goal

pub has_whole-returns-in-Steps : goal.has_whole-returns-in-Steps
has_whole-returns-in-Steps t c =
    exp-whole c.args.e.now c.in-Steps.steps c.in-Steps.rest c.deref.result.now c.deref-in-Steps.result.now c.both.result c.steps_have_whole.result c.has_whole.result c.in-Steps.is
    c.deref.ensures.value c.deref-in-Steps.ensures c.both.ensures c.steps_have_whole.ensures c.has_whole.ensures

pub steps_have_whole-loop-i-preserved : goal.steps_have_whole-loop-i-preserved
steps_have_whole-loop-i-preserved t c =
    all-mapped-more StepHasWhole step_of c.args.steps.now c.loop-i.i c.index-steps-i.result c.index-steps-i.result c.loop-i.all c.step_has_whole.result c.both-all.result
    c.loop-i-test.true c.index-steps-i.is c.loop-i.invariant c.step_has_whole.ensures c.both-all.ensures

pub steps_have_whole-returns : goal.steps_have_whole-returns
steps_have_whole-returns t c =
    iff-along c.loop-i.all (all-whole (map step_of c.args.steps.now))
    (all-mapped-ends StepHasWhole step_of c.args.steps.now c.loop-i.i c.loop-i.all c.loop-i-test.false c.loop-i.invariant)

pub arms_have_whole-loop-i-preserved : goal.arms_have_whole-loop-i-preserved
arms_have_whole-loop-i-preserved t c =
    all-mapped-more (λ (a : ArmTree). HasWhole a.body) arm_of c.args.arms.now c.loop-i.i c.index-arms-i.result c.index-arms-i.result c.loop-i.all c.has_whole.result c.both-all.result
    c.loop-i-test.true c.index-arms-i.is c.loop-i.invariant (arm-whole c.index-arms-i.result c.has_whole.result c.has_whole.ensures) c.both-all.ensures

pub arms_have_whole-returns : goal.arms_have_whole-returns
arms_have_whole-returns t c =
    iff-along c.loop-i.all (arms-whole (map arm_of c.args.arms.now))
    (all-mapped-ends (λ (a : ArmTree). HasWhole a.body) arm_of c.args.arms.now c.loop-i.i c.loop-i.all c.loop-i-test.false c.loop-i.invariant)
