use Rattle.mono_bound.specs.Reads.{mono_of}
use Rattle.closure_bodies.specs.of_closure_whole.Constants.{AreHeld}
use Rattle.closure_bodies.specs.of_closure_steps.Reads.{mono_step, mono_arm, mono_function}
use Rattle.closure_first.specs.Held.{StepHeld, ArmHeld, MemberHeld}
use Rattle.closure_first.proofs.Holding.{all-next, all-done, steps-node, switch-node, first-node, fn-held, block-held, handle-held, group-held, test-held, arm-held, member-held}
use Rattle.closure_first.proofs.held.+held.Goals as goal

pub all_are_held-loop-i-preserved : goal.all_are_held-loop-i-preserved
all_are_held-loop-i-preserved t c = λ types strings h.
    all-next (λ e. AreHeld strings (mono_of types strings e)) c.args.attempts.now c.loop-i.i c.index-attempts-i.result c.index-attempts-i.result c.loop-i-test.true c.index-attempts-i.is
    (c.constants_are_held.ensures types strings h) (c.loop-i.invariant types strings h)

pub all_are_held-returns : goal.all_are_held-returns
all_are_held-returns t c = λ types strings h.
    all-done (λ e. AreHeld strings (mono_of types strings e)) c.args.attempts.now c.loop-i.i c.loop-i-test.false (c.loop-i.invariant types strings h)

pub arms_are_held-loop-i-preserved : goal.arms_are_held-loop-i-preserved
arms_are_held-loop-i-preserved t c = λ types strings h.
    all-next (λ a. ArmHeld strings (mono_arm types strings a)) c.args.arms.now c.loop-i.i c.index-arms-i.result c.index-arms-i.result c.loop-i-test.true c.index-arms-i.is
    (c.arm_is_held.ensures types strings h) (c.loop-i.invariant types strings h)

pub arms_are_held-returns : goal.arms_are_held-returns
arms_are_held-returns t c = λ types strings h.
    all-done (λ a. ArmHeld strings (mono_arm types strings a)) c.args.arms.now c.loop-i.i c.loop-i-test.false (c.loop-i.invariant types strings h)

pub functions_are_held-loop-i-preserved : goal.functions_are_held-loop-i-preserved
functions_are_held-loop-i-preserved t c = λ types strings h.
    all-next (λ f. MemberHeld strings (mono_function types strings f)) c.args.functions.now c.loop-i.i c.index-functions-i.result c.index-functions-i.result c.loop-i-test.true c.index-functions-i.is
    (c.member_is_held.ensures types strings h) (c.loop-i.invariant types strings h)

pub functions_are_held-returns : goal.functions_are_held-returns
functions_are_held-returns t c = λ types strings h.
    all-done (λ f. MemberHeld strings (mono_function types strings f)) c.args.functions.now c.loop-i.i c.loop-i-test.false (c.loop-i.invariant types strings h)

pub steps_are_held-loop-i-preserved : goal.steps_are_held-loop-i-preserved
steps_are_held-loop-i-preserved t c = λ types strings h.
    all-next (λ s. StepHeld strings (mono_step types strings s)) c.args.steps.now c.loop-i.i c.index-steps-i.result c.index-steps-i.result c.loop-i-test.true c.index-steps-i.is
    (c.step_is_held.ensures types strings h) (c.loop-i.invariant types strings h)

pub steps_are_held-returns : goal.steps_are_held-returns
steps_are_held-returns t c = λ types strings h.
    all-done (λ s. StepHeld strings (mono_step types strings s)) c.args.steps.now c.loop-i.i c.loop-i-test.false (c.loop-i.invariant types strings h)

pub arm_is_held-returns : goal.arm_is_held-returns
arm_is_held-returns t c = λ types strings h. arm-held types strings c.args.arm.now (c.case_is_held.ensures types strings h) (c.constants_are_held.ensures types strings h)

pub member_is_held-returns : goal.member_is_held-returns
member_is_held-returns t c = λ types strings h. member-held types strings c.args.function.now (c.constants_are_held.ensures types strings h)

pub constants_are_held-returns-in-Steps : goal.constants_are_held-returns-in-Steps
constants_are_held-returns-in-Steps t c = λ types strings h.
    steps-node types strings c.args.e.now c.in-Steps.steps c.in-Steps.rest c.deref.result.now c.deref-in-Steps.result.now c.in-Steps.is c.deref.ensures.value c.deref-in-Steps.ensures
    (c.steps_are_held.ensures types strings h) (c.constants_are_held.ensures types strings h)

pub constants_are_held-returns-in-Switch : goal.constants_are_held-returns-in-Switch
constants_are_held-returns-in-Switch t c = λ types strings h.
    switch-node types strings c.args.e.now c.in-Switch.atom c.in-Switch.ty c.in-Switch.arms c.deref-in-Switch.result.now c.in-Switch.is c.deref-in-Switch.ensures.value (c.arms_are_held.ensures types strings h)

pub constants_are_held-returns-in-First : goal.constants_are_held-returns-in-First
constants_are_held-returns-in-First t c = λ types strings h.
    first-node types strings c.args.e.now c.in-First.attempts c.in-First.last c.deref-in-First.result.now c.deref-in-First-2.result.now c.in-First.is c.deref-in-First.ensures.value c.deref-in-First-2.ensures
    (c.all_are_held.ensures types strings h) (c.constants_are_held-in-First.ensures types strings h)

pub step_is_held-returns-in-Fn : goal.step_is_held-returns-in-Fn
step_is_held-returns-in-Fn t c = λ types strings h.
    fn-held types strings c.args.step.now c.in-Fn.binding c.in-Fn.parameters c.in-Fn.last c.in-Fn.body c.deref.result.now c.in-Fn.is c.deref.ensures (c.constants_are_held.ensures types strings h)

pub step_is_held-returns-in-Block : goal.step_is_held-returns-in-Block
step_is_held-returns-in-Block t c = λ types strings h.
    block-held types strings c.args.step.now c.in-Block.field-0 c.in-Block.body c.deref-in-Block.result.now c.in-Block.is c.deref-in-Block.ensures (c.constants_are_held-in-Block.ensures types strings h)

pub step_is_held-returns-in-Handle : goal.step_is_held-returns-in-Handle
step_is_held-returns-in-Handle t c = λ types strings h.
    handle-held types strings c.args.step.now c.in-Handle.binding c.in-Handle.body c.in-Handle.packet c.in-Handle.handler c.deref-in-Handle.result.now c.deref-in-Handle-2.result.now c.in-Handle.is
    c.deref-in-Handle.ensures c.deref-in-Handle-2.ensures (c.constants_are_held-in-Handle.ensures types strings h) (c.constants_are_held-in-Handle-2.ensures types strings h)

pub step_is_held-returns-in-Group : goal.step_is_held-returns-in-Group
step_is_held-returns-in-Group t c = λ types strings h.
    group-held types strings c.args.step.now c.in-Group.field-0 c.in-Group.functions c.deref-in-Group.result.now c.in-Group.is c.deref-in-Group.ensures.value (c.functions_are_held.ensures types strings h)

pub step_is_held-returns-in-Test : goal.step_is_held-returns-in-Test
step_is_held-returns-in-Test t c = λ types strings h.
    test-held types strings c.args.step.now c.in-Test.atom c.in-Test.ty c.in-Test.case c.in-Test.others c.deref-in-Test.result.now c.in-Test.is c.deref-in-Test.ensures.value
    (c.case_is_held.ensures types strings h) (c.arms_are_held.ensures types strings h)
