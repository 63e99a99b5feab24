use Rattle.std.proofs.Common.{◌≡◌, ◌&&◌, suc, map, length, drop, refl, sym, ap, ◌∙◌, arith}
use Rattle.ir_plain.specs.Tree as clean
use Rattle.plain_tree.specs.TreeOf.{onto, put, firsts, step_of, tree_of}
use Rattle.tests_check.specs.Reads.{reading}
use Rattle.tests_check.proofs.Rolls.{steps-are, switch-is, first-is, arm-body, let-is, block-is, test-is}
use Rattle.tests_check.proofs.Values.{turned, steps_say, arms_say, attempts_say, next-says, stop-says, end-says}
use Rattle.tests_check.proofs.value.+values.Goals as goal

pub are_value_steps-loop-i-preserved : goal.are_value_steps-loop-i-preserved
are_value_steps-loop-i-preserved t c = λ b e. next-says (steps_say b e) c.args.steps.now c.loop-i.i c.index-steps-i.result c.is_value_step.result c.loop-i-test.true c.index-steps-i.is (c.loop-i.invariant b e)
    (c.is_value_step.ensures b (onto (map (step_of (reading b)) (drop (suc c.loop-i.i) c.args.steps.now)) e)) c.if-not-is_value_step.false

pub are_value_steps-returns-then-not-is_value_step : goal.are_value_steps-returns-then-not-is_value_step
are_value_steps-returns-then-not-is_value_step t c = λ b e. stop-says (steps_say b e) c.args.steps.now c.loop-i.i c.index-steps-i.result c.is_value_step.result c.loop-i-test.true c.index-steps-i.is (c.loop-i.invariant b e)
    (c.is_value_step.ensures b (onto (map (step_of (reading b)) (drop (suc c.loop-i.i) c.args.steps.now)) e)) c.if-not-is_value_step.true

pub are_values-loop-i-preserved : goal.are_values-loop-i-preserved
are_values-loop-i-preserved t c = λ b d. next-says (attempts_say b d) c.args.attempts.now c.loop-i.i c.index-attempts-i.result c.is_value.result c.loop-i-test.true c.index-attempts-i.is (c.loop-i.invariant b d)
    (ap (λ v. v && attempts_say b d (drop (suc c.loop-i.i) c.args.attempts.now)) (c.is_value.ensures b)) c.if-not-is_value.false

pub are_values-returns-then-not-is_value : goal.are_values-returns-then-not-is_value
are_values-returns-then-not-is_value t c = λ b d. stop-says (attempts_say b d) c.args.attempts.now c.loop-i.i c.index-attempts-i.result c.is_value.result c.loop-i-test.true c.index-attempts-i.is (c.loop-i.invariant b d)
    (ap (λ v. v && attempts_say b d (drop (suc c.loop-i.i) c.args.attempts.now)) (c.is_value.ensures b)) c.if-not-is_value.true

pub are_value_arms-loop-i-preserved : goal.are_value_arms-loop-i-preserved
are_value_arms-loop-i-preserved t c = λ b. next-says (arms_say b) c.args.arms.now c.loop-i.i c.index-arms-i.result c.is_value_arm.result c.loop-i-test.true c.index-arms-i.is (c.loop-i.invariant b)
    (ap (λ v. v && arms_say b (drop (suc c.loop-i.i) c.args.arms.now)) (c.is_value_arm.ensures b)) c.if-not-is_value_arm.false

pub are_value_arms-returns-then-not-is_value_arm : goal.are_value_arms-returns-then-not-is_value_arm
are_value_arms-returns-then-not-is_value_arm t c = λ b. stop-says (arms_say b) c.args.arms.now c.loop-i.i c.index-arms-i.result c.is_value_arm.result c.loop-i-test.true c.index-arms-i.is (c.loop-i.invariant b)
    (ap (λ v. v && arms_say b (drop (suc c.loop-i.i) c.args.arms.now)) (c.is_value_arm.ensures b)) c.if-not-is_value_arm.true

pub is_value-returns-then-are_value_steps : goal.is_value-returns-then-are_value_steps
is_value-returns-then-are_value_steps t c = λ b.
    ap clean.is_value (steps-are (reading b) c.args.e.now c.in-Steps.steps c.in-Steps.rest c.deref.result.now c.deref-then-are_value_steps.result.now c.in-Steps.is c.deref.ensures.value c.deref-then-are_value_steps.ensures)
    ∙ c.are_value_steps.ensures b (tree_of (reading b) c.deref-then-are_value_steps.result.now)
    ∙ ap (λ v. v && clean.is_value (tree_of (reading b) c.deref-then-are_value_steps.result.now)) c.if-are_value_steps.true ∙ c.is_value.ensures b

pub is_value-returns-else-are_value_steps : goal.is_value-returns-else-are_value_steps
is_value-returns-else-are_value_steps t c = λ b.
    ap clean.is_value (steps-are (reading b) c.args.e.now c.in-Steps.steps c.in-Steps.rest c.deref.result.now c.in-Steps.rest.value c.in-Steps.is c.deref.ensures.value refl)
    ∙ c.are_value_steps.ensures b (tree_of (reading b) c.in-Steps.rest.value)
    ∙ ap (λ v. v && clean.is_value (tree_of (reading b) c.in-Steps.rest.value)) c.if-are_value_steps.false ∙ sym c.if-are_value_steps.false

pub is_value-returns-in-Switch : goal.is_value-returns-in-Switch
is_value-returns-in-Switch t c = λ b.
    ap clean.is_value (switch-is (reading b) c.args.e.now c.in-Switch.atom c.in-Switch.ty c.in-Switch.arms c.deref-in-Switch.result.now c.in-Switch.is c.deref-in-Switch.ensures.value) ∙ c.are_value_arms.ensures b

pub is_value-returns-then-are_values : goal.is_value-returns-then-are_values
is_value-returns-then-are_values t c = λ b.
    ap clean.is_value (first-is (reading b) c.args.e.now c.in-First.attempts c.in-First.last c.deref-in-First.result.now c.deref-then-are_values.result.now c.in-First.is c.deref-in-First.ensures.value c.deref-then-are_values.ensures)
    ∙ c.are_values.ensures b (tree_of (reading b) c.deref-then-are_values.result.now)
    ∙ ap (λ v. v && clean.is_value (tree_of (reading b) c.deref-then-are_values.result.now)) c.if-are_values.true ∙ c.is_value-then-are_values.ensures b

pub is_value-returns-else-are_values : goal.is_value-returns-else-are_values
is_value-returns-else-are_values t c = λ b.
    ap clean.is_value (first-is (reading b) c.args.e.now c.in-First.attempts c.in-First.last c.deref-in-First.result.now c.in-First.last.value c.in-First.is c.deref-in-First.ensures.value refl)
    ∙ c.are_values.ensures b (tree_of (reading b) c.in-First.last.value)
    ∙ ap (λ v. v && clean.is_value (tree_of (reading b) c.in-First.last.value)) c.if-are_values.false ∙ sym c.if-are_values.false

pub is_value_arm-returns : goal.is_value_arm-returns
is_value_arm-returns t c = λ b. ap clean.is_value (arm-body (reading b) c.args.arm.now) ∙ c.is_value.ensures b

pub is_value_step-returns-in-Let : goal.is_value_step-returns-in-Let
is_value_step-returns-in-Let t c = λ b e.
    ap (λ s. clean.is_value (put s e)) (let-is (reading b) c.args.step.now c.in-Let.field-0 c.in-Let.operation c.in-Let.is) ∙ ap (λ v. v && clean.is_value e) (c.is_value_operation.ensures b)

pub is_value_step-returns-in-Block : goal.is_value_step-returns-in-Block
is_value_step-returns-in-Block t c = λ b e.
    ap (λ s. clean.is_value (put s e)) (block-is (reading b) c.args.step.now c.in-Block.field-0 c.in-Block.body c.deref.result.now c.in-Block.is c.deref.ensures) ∙ ap (λ v. v && clean.is_value e) (c.is_value.ensures b)

pub is_value_step-returns-in-Test : goal.is_value_step-returns-in-Test
is_value_step-returns-in-Test t c = λ b e.
    ap (λ s. clean.is_value (put s e)) (test-is (reading b) c.args.step.now c.in-Test.atom c.in-Test.ty c.in-Test.case c.in-Test.others c.deref-in-Test.result.now c.in-Test.is c.deref-in-Test.ensures.value)
    ∙ ap (λ v. clean.is_value e && v) (c.are_value_arms.ensures b) ∙ turned (clean.is_value e) c.are_value_arms.result

pub are_value_arms-returns : goal.are_value_arms-returns
are_value_arms-returns t c = let n : c.loop-i.i ≡ length c.args.arms.now = omega arith in λ b. end-says (arms_say b) c.args.arms.now c.loop-i.i n (c.loop-i.invariant b)

pub are_value_steps-returns : goal.are_value_steps-returns
are_value_steps-returns t c = let n : c.loop-i.i ≡ length c.args.steps.now = omega arith in λ b e. end-says (steps_say b e) c.args.steps.now c.loop-i.i n (c.loop-i.invariant b e)

pub are_values-returns : goal.are_values-returns
are_values-returns t c = let n : c.loop-i.i ≡ length c.args.attempts.now = omega arith in λ b d. end-says (attempts_say b d) c.args.attempts.now c.loop-i.i n (c.loop-i.invariant b d)
