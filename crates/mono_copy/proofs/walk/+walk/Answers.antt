use Rattle.std.proofs.Common.{◌≡◌, ◌+◌, ◌-◌, ◌<◌, [], map, rules, true, length, take, drop, reverse, get_or, refl, sym, ap, subst, ◌∙◌, arith}
use Rattle.std.proofs.lemmas.Result.{IfOk-weaker}
use Rattle.std.proofs.lemmas.List.{drop_all, take_all}
use Rattle.ty_core.specs.Statics.{replace}
use Rattle.ty_table.specs.TypeAt.{type_at}
use Rattle.ir_tables.specs.Tables.{strings_of}
use Rattle.monomorphise.specs.Monomorphise.{copy_of, units, fun_vars}
use Rattle.mono_scopes.specs.Scopes.{variable}
use Rattle.mono_parts.specs.of_tests_check.Reads.{reading}
use Rattle.mono_parts.proofs.of_tests_check.Rolls.{steps-are, ret-is, switch-is, first-is, miss-is, let-is, fn-is, block-is, handle-is, group-is, test-is}
use Rattle.mono_words.specs.Words.{end_sign, last_sign}
use Rattle.mono_words.specs.Seen.{with_sign, within, out}
use Rattle.mono_words.specs.Made.{all_bare}
use Rattle.mono_parts.specs.of_mono_state.Seen.{Longer, held_of, types_in}
use Rattle.mono_parts.specs.of_mono_state.Going.{IsRight, AllHeld}
use Rattle.mono_parts.specs.of_mono_state.declared.copier.Copier.{Copier}
use Rattle.mono_parts.specs.of_mono_state.declared.word.Word.TheVariants as word
use Rattle.mono_parts.proofs.of_mono_state.Growing.{still-held, still-all, on-longer, same-longer}
use Rattle.mono_parts.specs.Steps.{steps_in, functions_in, with_own, parameters_entered, parameters_left}
use Rattle.mono_parts.proofs.Putting.{dropped}
use Rattle.mono_copy.specs.Puts.{Puts, Passes}
use Rattle.mono_copy.specs.Changes.{each_put, attempt_put, arms_put, arm_put, step_entered, step_left, operation_put, function_put, bodies_put, binding_put, group_put}
use Rattle.mono_copy.proofs.Changing.{passed, kept, ready-then, ready-goes, puts-then, puts-as, passes-as, puts-nothing, puts-word}
use Rattle.mono_copy.proofs.Walking.{entered-more, entered-passes, entered-whole, none-behind, left-none, left-more, left-passes, left-whole, turned-more, turned-whole, part-whole, step-copied, group-copied, arms-whole, body_put, bodies-whole}
use Rattle.mono_copy.proofs.Leaves.{arm-opens, arm-puts, switch-puts, plain-puts, later-puts, types-puts}
use Rattle.mono_copy.proofs.Shapes.{not-test, not-group, none-acted}
use Rattle.mono_copy.proofs.Standing.{under-binding, under-group, taken-back, own-front, own-stood, is-back, home, copy-put, copy-passes, group-put, group-passes}
use Rattle.mono_copy.proofs.Cycle.{steps-put, steps-left-passes, steps-walk-passes, steps-enter-passes, ret-exp, miss-exp, switch-exp, switch-passes, first-exp, first-attempts-passes, first-last-passes, each-begins, each-goes, each-stops, each-ends, nothing, attempt-goes, attempt-grows, attempt-passes, arm-grows, arm-passes, test-entered, test-passes, operation-acted, fn-acted, fn-passes, block-acted, block-passes, handle-acted, handle-walk-passes, handle-handler-passes, handler-passes, function-goes, function-passes, body-grows, held-at, binding-put-grows, group-put-grows}
use Rattle.mono_copy.proofs.Copies.{further-passes, copies-put, copies-passes, further-groups-pass, groups-put, groups-pass}
use Rattle.mono_copy.proofs.Sizes.{rest-size, steps-size, arms-size, attempts-size, exp-size, step-size, arm-size, body-size, handled-size, function-size}
use Rattle.mono_copy.proofs.walk.+walk.Goals as goal

pub walk-walk-requires : goal.walk-walk-requires
walk-walk-requires t c =
    (omega (arith, c.decreases, rest-size c.args.e.now c.in-Steps.steps c.in-Steps.rest c.deref-in-Steps-2.result.now c.in-Steps.is c.deref-in-Steps-2.ensures), ready-then c.requires c.in_ok-enter_steps-in-Steps.ensures.put)

pub walk-leave_steps-requires : goal.walk-leave_steps-requires
walk-leave_steps-requires t c =
    (omega (arith, c.decreases, steps-size c.args.e.now c.in-Steps.steps c.in-Steps.rest c.deref-in-Steps-3.result.now c.in-Steps.is c.deref-in-Steps-3.ensures.value), ready-then (ready-then c.requires c.in_ok-enter_steps-in-Steps.ensures.put) c.in_ok-walk-in-Steps.ensures.put)

pub walk-returns-in_err-enter_steps-in-Steps-clause-too_large : goal.walk-returns-in_err-enter_steps-in-Steps-clause-too_large
walk-returns-in_err-enter_steps-in-Steps-clause-too_large t c =
    passed c.from_residual.result c.in_err-enter_steps-in-Steps.field-0.0 c.from_residual.ensures.1 _ _ (steps-enter-passes c.args.tables.now c.args.strip _ c.args.e.now c.in-Steps.rest.value c.deref.result.now (steps-are (reading c.args.tables.now) c.args.e.now c.in-Steps.steps c.in-Steps.rest c.deref.result.now c.in-Steps.rest.value c.in-Steps.is c.deref.ensures.value refl) refl) c.in_err-enter_steps-in-Steps.ensures.too_large

pub walk-returns-in_err-walk-in-Steps-clause-too_large : goal.walk-returns-in_err-walk-in-Steps-clause-too_large
walk-returns-in_err-walk-in-Steps-clause-too_large t c =
    passed c.from_residual-in_err-walk-in-Steps.result c.in_err-walk-in-Steps.field-0.0 c.from_residual-in_err-walk-in-Steps.ensures.1 _ _ (steps-walk-passes c.args.tables.now c.args.strip c.strips_behind.result c.args.e.now c.deref-in-Steps-2.result.now c.deref.result.now (steps-are (reading c.args.tables.now) c.args.e.now c.in-Steps.steps c.in-Steps.rest c.deref.result.now c.deref-in-Steps-2.result.now c.in-Steps.is c.deref.ensures.value c.deref-in-Steps-2.ensures) (c.strips_behind.ensures c.args.tables.now ∙ ap (λ l. all_bare c.args.strip (steps_in c.args.tables.now l)) (c.deref-in-Steps.ensures.value ∙ sym c.deref.ensures.value)) c.in_ok-enter_steps-in-Steps.ensures.put) c.in_err-walk-in-Steps.ensures.too_large

pub walk-returns-in_ok-walk-in-Steps-clause-put : goal.walk-returns-in_ok-walk-in-Steps-clause-put
walk-returns-in_ok-walk-in-Steps-clause-put t c =
    IfOk-weaker c.leave_steps.result _ _ (λ x h. steps-put c.args.tables.now c.args.strip c.strips_behind.result c.args.e.now c.deref-in-Steps-2.result.now c.deref.result.now (steps-are (reading c.args.tables.now) c.args.e.now c.in-Steps.steps c.in-Steps.rest c.deref.result.now c.deref-in-Steps-2.result.now c.in-Steps.is c.deref.ensures.value c.deref-in-Steps-2.ensures) (c.strips_behind.ensures c.args.tables.now ∙ ap (λ l. all_bare c.args.strip (steps_in c.args.tables.now l)) (c.deref-in-Steps.ensures.value ∙ sym c.deref.ensures.value)) c.deref-in-Steps-3.result.now (c.deref-in-Steps-3.ensures.value ∙ sym c.deref.ensures.value) c.in_ok-enter_steps-in-Steps.ensures.put c.in_ok-walk-in-Steps.ensures.put h) c.leave_steps.ensures.put

pub walk-returns-in_ok-walk-in-Steps-clause-too_large : goal.walk-returns-in_ok-walk-in-Steps-clause-too_large
walk-returns-in_ok-walk-in-Steps-clause-too_large t c =
    kept c.leave_steps.result _ _ (λ h. steps-left-passes c.args.tables.now c.args.strip c.strips_behind.result c.args.e.now c.deref-in-Steps-2.result.now c.deref.result.now (steps-are (reading c.args.tables.now) c.args.e.now c.in-Steps.steps c.in-Steps.rest c.deref.result.now c.deref-in-Steps-2.result.now c.in-Steps.is c.deref.ensures.value c.deref-in-Steps-2.ensures) (c.strips_behind.ensures c.args.tables.now ∙ ap (λ l. all_bare c.args.strip (steps_in c.args.tables.now l)) (c.deref-in-Steps.ensures.value ∙ sym c.deref.ensures.value)) c.deref-in-Steps-3.result.now (c.deref-in-Steps-3.ensures.value ∙ sym c.deref.ensures.value) c.in_ok-enter_steps-in-Steps.ensures.put c.in_ok-walk-in-Steps.ensures.put h) c.leave_steps.ensures.too_large

pub walk-returns-in_ok-put_ret-in-Ret-clause-put : goal.walk-returns-in_ok-put_ret-in-Ret-clause-put
walk-returns-in_ok-put_ret-in-Ret-clause-put t c =
    ret-exp c.args.tables.now c.args.strip c.args.e.now c.in-Ret.variable (ret-is (reading c.args.tables.now) c.args.e.now c.in-Ret.variable c.in-Ret.is) (c.in_ok-put_ret-in-Ret.ensures c.args.strip)

pub walk-put_arms-requires : goal.walk-put_arms-requires
walk-put_arms-requires t c =
    (omega (arith, c.decreases, arms-size c.args.e.now c.in-Switch.atom c.in-Switch.ty c.in-Switch.arms c.deref-in-Switch.result.now c.in-Switch.is c.deref-in-Switch.ensures.value), c.requires)

pub walk-put_switch-requires-clause-is_open : goal.walk-put_switch-requires-clause-is_open
walk-put_switch-requires-clause-is_open t c =
    c.in_ok-put_arms-in-Switch.ensures.put.goes.open_

pub walk-put_switch-requires-clause-right : goal.walk-put_switch-requires-clause-right
walk-put_switch-requires-clause-right t c =
    c.in_ok-put_arms-in-Switch.ensures.put.goes.right c.requires.right

pub walk-returns-in_err-put_arms-in-Switch-clause-too_large : goal.walk-returns-in_err-put_arms-in-Switch-clause-too_large
walk-returns-in_err-put_arms-in-Switch-clause-too_large t c =
    passed c.from_residual-in_err-put_arms-in-Switch.result c.in_err-put_arms-in-Switch.field-0.0 c.from_residual-in_err-put_arms-in-Switch.ensures.1 _ _ (switch-passes c.args.tables.now c.args.strip c.args.e.now c.in-Switch.atom c.in-Switch.ty c.deref-in-Switch.result.now (switch-is (reading c.args.tables.now) c.args.e.now c.in-Switch.atom c.in-Switch.ty c.in-Switch.arms c.deref-in-Switch.result.now c.in-Switch.is c.deref-in-Switch.ensures.value)) c.in_err-put_arms-in-Switch.ensures.too_large

pub walk-returns-in_ok-put_switch-in-Switch-clause-put : goal.walk-returns-in_ok-put_switch-in-Switch-clause-put
walk-returns-in_ok-put_switch-in-Switch-clause-put t c =
    switch-exp c.args.tables.now c.args.strip c.args.e.now c.in-Switch.atom c.in-Switch.ty c.deref-in-Switch.result.now (switch-is (reading c.args.tables.now) c.args.e.now c.in-Switch.atom c.in-Switch.ty c.in-Switch.arms c.deref-in-Switch.result.now c.in-Switch.is c.deref-in-Switch.ensures.value) c.in_ok-put_arms-in-Switch.ensures.put (switch-puts c.in-Switch.atom c.in-Switch.ty c.in_ok-put_switch-in-Switch.ensures.goes c.in_ok-put_switch-in-Switch.ensures.put)

pub walk-put_attempts-requires : goal.walk-put_attempts-requires
walk-put_attempts-requires t c =
    (omega (arith, c.decreases, attempts-size c.args.e.now c.in-First.attempts c.in-First.last c.deref-in-First-2.result.now c.in-First.is c.deref-in-First-2.ensures.value), ready-then c.requires c.in_ok-walk-in-First.ensures.put)

pub walk-returns-in_err-walk-in-First-clause-too_large : goal.walk-returns-in_err-walk-in-First-clause-too_large
walk-returns-in_err-walk-in-First-clause-too_large t c =
    passed c.from_residual-in_err-walk-in-First.result c.in_err-walk-in-First.field-0.0 c.from_residual-in_err-walk-in-First.ensures.1 _ _ (first-last-passes c.args.tables.now c.args.strip c.args.e.now (c.in-First.attempts.items) c.deref-in-First.result.now (first-is (reading c.args.tables.now) c.args.e.now c.in-First.attempts c.in-First.last (c.in-First.attempts.items) c.deref-in-First.result.now c.in-First.is refl c.deref-in-First.ensures)) c.in_err-walk-in-First.ensures.too_large

pub walk-returns-in_ok-walk-in-First-clause-put : goal.walk-returns-in_ok-walk-in-First-clause-put
walk-returns-in_ok-walk-in-First-clause-put t c =
    IfOk-weaker c.put_attempts.result _ _ (λ x h. first-exp c.args.tables.now c.args.strip c.args.e.now c.deref-in-First-2.result.now c.deref-in-First.result.now (first-is (reading c.args.tables.now) c.args.e.now c.in-First.attempts c.in-First.last c.deref-in-First-2.result.now c.deref-in-First.result.now c.in-First.is c.deref-in-First-2.ensures.value c.deref-in-First.ensures) c.in_ok-walk-in-First.ensures.put h) c.put_attempts.ensures.put

pub walk-returns-in_ok-walk-in-First-clause-too_large : goal.walk-returns-in_ok-walk-in-First-clause-too_large
walk-returns-in_ok-walk-in-First-clause-too_large t c =
    kept c.put_attempts.result _ _ (λ h. first-attempts-passes c.args.tables.now c.args.strip c.args.e.now c.deref-in-First-2.result.now c.deref-in-First.result.now (first-is (reading c.args.tables.now) c.args.e.now c.in-First.attempts c.in-First.last c.deref-in-First-2.result.now c.deref-in-First.result.now c.in-First.is c.deref-in-First-2.ensures.value c.deref-in-First.ensures) c.in_ok-walk-in-First.ensures.put h) c.put_attempts.ensures.too_large

pub walk-returns-in_ok-put-in-Miss-clause-put : goal.walk-returns-in_ok-put-in-Miss-clause-put
walk-returns-in_ok-put-in-Miss-clause-put t c =
    miss-exp c.args.tables.now c.args.strip c.args.e.now (miss-is (reading c.args.tables.now) c.args.e.now c.in-Miss.is) (puts-word word.Miss c.in_ok-put-in-Miss.ensures.goes c.in_ok-put-in-Miss.ensures.put)

pub put_attempts-loop-left-init : goal.put_attempts-loop-left-init
put_attempts-loop-left-init t c =
    record { within = omega arith; put = each-begins nothing (attempt_put c.args.tables.now c.args.strip) _ (drop_all (length c.args.attempts.now) c.args.attempts.now (omega arith)) (puts-nothing c.requires) }

pub put_attempts-walk-requires : goal.put_attempts-walk-requires
put_attempts-walk-requires t c =
    let w = c.loop-left.invariant.within in let q = c.loop-left-test.true in let lt : c.loop-left.left - 1 < length c.args.attempts.now = omega (arith, w, q) in (omega (arith, c.decreases, exp-size c.args.attempts.now (c.loop-left.left - 1) c.index-attempts-left.result lt c.index-attempts-left.is), ready-then c.requires c.loop-left.invariant.put)

pub put_attempts-put-requires : goal.put_attempts-put-requires
put_attempts-put-requires t c =
    c.in_ok-walk.ensures.put.goes.open_

pub put_attempts-returns-in_err-walk-clause-too_large : goal.put_attempts-returns-in_err-walk-clause-too_large
put_attempts-returns-in_err-walk-clause-too_large t c =
    passed c.from_residual.result c.in_err-walk.field-0.0 c.from_residual.ensures.1 _ _ ((let w = c.loop-left.invariant.within in let q = c.loop-left-test.true in let m : c.loop-left.left ≡ (c.loop-left.left - 1) + 1 = omega (arith, q) in let lt : c.loop-left.left - 1 < length c.args.attempts.now = omega (arith, w, q) in λ h. each-stops nothing (attempt_put c.args.tables.now c.args.strip) c.args.attempts.now (take (c.loop-left.left - 1) c.args.attempts.now) (drop c.loop-left.left c.args.attempts.now) c.index-attempts-left.result (part-whole c.args.attempts.now (drop c.loop-left.left c.args.attempts.now) c.index-attempts-left.result (c.loop-left.left - 1) (dropped c.args.attempts.now c.index-attempts-left.result (c.loop-left.left - 1) c.loop-left.left m lt c.index-attempts-left.is)) (attempt-grows c.args.tables.now c.args.strip) c.loop-left.invariant.put (attempt-passes c.args.strip c.index-attempts-left.result h))) c.in_err-walk.ensures.too_large

pub put_attempts-loop-left-preserved : goal.put_attempts-loop-left-preserved
put_attempts-loop-left-preserved t c =
    let w = c.loop-left.invariant.within in let q = c.loop-left-test.true in let m : c.loop-left.left ≡ (c.loop-left.left - 1) + 1 = omega (arith, q) in let lt : c.loop-left.left - 1 < length c.args.attempts.now = omega (arith, w, q) in record { within = omega (arith, w); put = each-goes nothing (attempt_put c.args.tables.now c.args.strip) (drop (c.loop-left.left - 1) c.args.attempts.now) (drop c.loop-left.left c.args.attempts.now) c.index-attempts-left.result (dropped c.args.attempts.now c.index-attempts-left.result (c.loop-left.left - 1) c.loop-left.left m lt c.index-attempts-left.is) c.loop-left.invariant.put (attempt-goes c.args.strip c.index-attempts-left.result c.in_ok-walk.ensures.put (puts-word word.First c.in_ok-put.ensures.goes c.in_ok-put.ensures.put)) }

pub put_attempts-returns-clause-put : goal.put_attempts-returns-clause-put
put_attempts-returns-clause-put t c =
    each-ends nothing (attempt_put c.args.tables.now c.args.strip) c.args.attempts.now c.loop-left.left (let q = c.loop-left-test.false in let z : c.loop-left.left ≡ 0 = omega (arith, q) in z) c.loop-left.invariant.put

pub put_arms-loop-left-init : goal.put_arms-loop-left-init
put_arms-loop-left-init t c =
    record { within = omega arith; put = each-begins (λ H g s n. with_sign end_sign n) (arm_put c.args.tables.now c.args.strip) _ (drop_all (length c.args.arms.now) c.args.arms.now (omega arith)) (puts-word word.End c.in_ok-put.ensures.goes c.in_ok-put.ensures.put) }

pub put_arms-put_arm-requires : goal.put_arms-put_arm-requires
put_arms-put_arm-requires t c =
    let w = c.loop-left.invariant.within in let q = c.loop-left-test.true in let lt : c.loop-left.left - 1 < length c.args.arms.now = omega (arith, w, q) in (omega (arith, c.decreases, arm-size c.args.arms.now (c.loop-left.left - 1) c.index-arms-left.result lt c.index-arms-left.is), ready-then c.requires c.loop-left.invariant.put)

pub put_arms-returns-in_err-put_arm-clause-too_large : goal.put_arms-returns-in_err-put_arm-clause-too_large
put_arms-returns-in_err-put_arm-clause-too_large t c =
    passed c.from_residual-in_err-put_arm.result c.in_err-put_arm.field-0.0 c.from_residual-in_err-put_arm.ensures.1 _ _ ((let w = c.loop-left.invariant.within in let q = c.loop-left-test.true in let m : c.loop-left.left ≡ (c.loop-left.left - 1) + 1 = omega (arith, q) in let lt : c.loop-left.left - 1 < length c.args.arms.now = omega (arith, w, q) in λ h. passes-as (arms_put c.args.tables.now c.args.strip c.args.arms.now) (arms-whole c.args.tables.now c.args.strip c.args.arms.now) (each-stops (λ H g s n. with_sign end_sign n) (arm_put c.args.tables.now c.args.strip) c.args.arms.now (take (c.loop-left.left - 1) c.args.arms.now) (drop c.loop-left.left c.args.arms.now) c.index-arms-left.result (part-whole c.args.arms.now (drop c.loop-left.left c.args.arms.now) c.index-arms-left.result (c.loop-left.left - 1) (dropped c.args.arms.now c.index-arms-left.result (c.loop-left.left - 1) c.loop-left.left m lt c.index-arms-left.is)) (arm-grows c.args.tables.now c.args.strip) c.loop-left.invariant.put h))) c.in_err-put_arm.ensures.too_large

pub put_arms-loop-left-preserved : goal.put_arms-loop-left-preserved
put_arms-loop-left-preserved t c =
    let w = c.loop-left.invariant.within in let q = c.loop-left-test.true in let m : c.loop-left.left ≡ (c.loop-left.left - 1) + 1 = omega (arith, q) in let lt : c.loop-left.left - 1 < length c.args.arms.now = omega (arith, w, q) in record { within = omega (arith, w); put = each-goes (λ H g s n. with_sign end_sign n) (arm_put c.args.tables.now c.args.strip) (drop (c.loop-left.left - 1) c.args.arms.now) (drop c.loop-left.left c.args.arms.now) c.index-arms-left.result (dropped c.args.arms.now c.index-arms-left.result (c.loop-left.left - 1) c.loop-left.left m lt c.index-arms-left.is) c.loop-left.invariant.put c.in_ok-put_arm.ensures.put }

pub put_arms-returns-clause-put : goal.put_arms-returns-clause-put
put_arms-returns-clause-put t c =
    puts-as (arms_put c.args.tables.now c.args.strip c.args.arms.now) (arms-whole c.args.tables.now c.args.strip c.args.arms.now) (each-ends (λ H g s n. with_sign end_sign n) (arm_put c.args.tables.now c.args.strip) c.args.arms.now c.loop-left.left (let q = c.loop-left-test.false in let z : c.loop-left.left ≡ 0 = omega (arith, q) in z) c.loop-left.invariant.put)

pub put_arm-walk-requires : goal.put_arm-walk-requires
put_arm-walk-requires t c =
    (omega (arith, c.decreases, body-size c.args.arm.now), ready-goes c.requires (c.in_ok-enter_arm.ensures.goes c.args.tables.now.types))

pub put_arm-leave_arm-requires-clause-is_open : goal.put_arm-leave_arm-requires-clause-is_open
put_arm-leave_arm-requires-clause-is_open t c =
    c.in_ok-walk.ensures.put.goes.open_

pub put_arm-leave_arm-requires-clause-right : goal.put_arm-leave_arm-requires-clause-right
put_arm-leave_arm-requires-clause-right t c =
    (ready-then (ready-goes c.requires (c.in_ok-enter_arm.ensures.goes c.args.tables.now.types)) c.in_ok-walk.ensures.put).right

pub put_arm-returns-in_err-walk-clause-too_large : goal.put_arm-returns-in_err-walk-clause-too_large
put_arm-returns-in_err-walk-clause-too_large t c =
    passed c.from_residual-in_err-walk.result c.in_err-walk.field-0.0 c.from_residual-in_err-walk.ensures.1 _ _ (arm-passes c.args.strip c.args.arm.now (arm-opens c.args.arm.now.case c.in_ok-enter_arm.ensures.goes c.in_ok-enter_arm.ensures.entered)) c.in_err-walk.ensures.too_large

pub put_arm-returns-clause-put : goal.put_arm-returns-clause-put
put_arm-returns-clause-put t c =
    puts-then (puts-then (arm-opens c.args.arm.now.case c.in_ok-enter_arm.ensures.goes c.in_ok-enter_arm.ensures.entered) c.in_ok-walk.ensures.put) (arm-puts c.args.arm.now.case c.in_ok-leave_arm.ensures.goes c.in_ok-leave_arm.ensures.left)

pub enter_steps-loop-i-init : goal.enter_steps-loop-i-init
enter_steps-loop-i-init t c =
    puts-nothing c.requires

pub enter_steps-enter_step-requires : goal.enter_steps-enter_step-requires
enter_steps-enter_step-requires t c =
    (omega (arith, c.decreases, step-size c.args.steps.now c.loop-i.i c.index-steps-i.result c.loop-i-test.true c.index-steps-i.is), ready-then c.requires c.loop-i.invariant)

pub enter_steps-returns-in_err-enter_step-clause-too_large : goal.enter_steps-returns-in_err-enter_step-clause-too_large
enter_steps-returns-in_err-enter_step-clause-too_large t c =
    passed c.from_residual.result c.in_err-enter_step.field-0.0 c.from_residual.ensures.1 _ _ (entered-passes c.args.tables.now c.args.strip c.args.steps.now c.loop-i.i c.index-steps-i.result c.index-steps-i.result _ c.loop-i-test.true c.index-steps-i.is (let q = c.loop-i-test.true in c.stripped-bare.ensures c.args.tables.now c.loop-i.i (omega (arith, q))) c.loop-i.invariant) c.in_err-enter_step.ensures.too_large

pub enter_steps-loop-i-preserved : goal.enter_steps-loop-i-preserved
enter_steps-loop-i-preserved t c =
    entered-more c.args.tables.now c.args.strip c.args.steps.now c.loop-i.i c.index-steps-i.result c.index-steps-i.result _ c.loop-i-test.true c.index-steps-i.is (let q = c.loop-i-test.true in c.stripped-bare.ensures c.args.tables.now c.loop-i.i (omega (arith, q))) c.loop-i.invariant c.in_ok-enter_step.ensures.put

pub enter_steps-returns-clause-put : goal.enter_steps-returns-clause-put
enter_steps-returns-clause-put t c =
    entered-whole c.args.tables.now c.args.strip c.args.steps.now c.loop-i.i c.loop-i-test.false c.loop-i.invariant

pub enter_step-enter_arm-requires : goal.enter_step-enter_arm-requires
enter_step-enter_arm-requires t c =
    c.in_ok-put_arms-in-Test.ensures.put.goes.open_

pub enter_step-returns-in_err-put_arms-in-Test-clause-too_large : goal.enter_step-returns-in_err-put_arms-in-Test-clause-too_large
enter_step-returns-in_err-put_arms-in-Test-clause-too_large t c =
    passed c.from_residual.result c.in_err-put_arms-in-Test.field-0.0 c.from_residual.ensures.1 _ _ (test-passes c.args.tables.now c.args.strip c.args.step.now c.in-Test.atom c.in-Test.ty c.in-Test.case c.deref.result.now (test-is (reading c.args.tables.now) c.args.step.now c.in-Test.atom c.in-Test.ty c.in-Test.case c.in-Test.others c.deref.result.now c.in-Test.is c.deref.ensures.value)) c.in_err-put_arms-in-Test.ensures.too_large

pub enter_step-returns-in_ok-enter_arm-in-Test-clause-put : goal.enter_step-returns-in_ok-enter_arm-in-Test-clause-put
enter_step-returns-in_ok-enter_arm-in-Test-clause-put t c =
    test-entered c.args.tables.now c.args.strip c.args.step.now c.in-Test.atom c.in-Test.ty c.in-Test.case c.deref.result.now (test-is (reading c.args.tables.now) c.args.step.now c.in-Test.atom c.in-Test.ty c.in-Test.case c.in-Test.others c.deref.result.now c.in-Test.is c.deref.ensures.value) c.in_ok-put_arms-in-Test.ensures.put (arm-opens c.in-Test.case c.in_ok-enter_arm-in-Test.ensures.goes c.in_ok-enter_arm-in-Test.ensures.entered)

pub enter_step-returns-in_ok-open_step-in_default : goal.enter_step-returns-in_ok-open_step-in_default
enter_step-returns-in_ok-open_step-in_default t c =
    record { put = puts-as (step_entered c.args.tables.now c.args.strip c.args.step.now) (λ H g s n. not-test c.args.tables.now c.args.step.now c.in_default.not-Test c.args.strip g s n) c.in_ok-open_step-in_default.ensures; too_large = tt }

pub leave_steps-loop-left-init : goal.leave_steps-loop-left-init
leave_steps-loop-left-init t c =
    record { within = omega arith; put = left-none c.args.tables.now c.args.strip c.args.steps.now (length c.args.steps.now) (none-behind c.args.tables.now c.args.steps.now) c.requires }

pub leave_steps-leave_step-requires : goal.leave_steps-leave_step-requires
leave_steps-leave_step-requires t c =
    let w = c.loop-left.invariant.within in let q = c.loop-left-test.true in let lt : c.loop-left.left - 1 < length c.args.steps.now = omega (arith, w, q) in (omega (arith, c.decreases, step-size c.args.steps.now (c.loop-left.left - 1) c.index-steps-left.result lt c.index-steps-left.is), ready-then c.requires c.loop-left.invariant.put)

pub leave_steps-returns-in_err-leave_step-clause-too_large : goal.leave_steps-returns-in_err-leave_step-clause-too_large
leave_steps-returns-in_err-leave_step-clause-too_large t c =
    passed c.from_residual.result c.in_err-leave_step.field-0.0 c.from_residual.ensures.1 _ _ ((let w = c.loop-left.invariant.within in let q = c.loop-left-test.true in let m : c.loop-left.left ≡ (c.loop-left.left - 1) + 1 = omega (arith, q) in let lt : c.loop-left.left - 1 < length c.args.steps.now = omega (arith, w, q) in left-passes c.args.tables.now c.args.strip c.args.steps.now c.loop-left.left (c.loop-left.left - 1) c.index-steps-left.result c.index-steps-left.result _ m lt c.index-steps-left.is (c.stripped-bare.ensures c.args.tables.now (c.loop-left.left - 1) (omega (arith, lt))) c.loop-left.invariant.put)) c.in_err-leave_step.ensures.too_large

pub leave_steps-loop-left-preserved : goal.leave_steps-loop-left-preserved
leave_steps-loop-left-preserved t c =
    let w = c.loop-left.invariant.within in let q = c.loop-left-test.true in let m : c.loop-left.left ≡ (c.loop-left.left - 1) + 1 = omega (arith, q) in let lt : c.loop-left.left - 1 < length c.args.steps.now = omega (arith, w, q) in record { within = omega (arith, w); put = left-more c.args.tables.now c.args.strip c.args.steps.now c.loop-left.left (c.loop-left.left - 1) c.index-steps-left.result c.index-steps-left.result _ m lt c.index-steps-left.is (c.stripped-bare.ensures c.args.tables.now (c.loop-left.left - 1) (omega (arith, lt))) c.loop-left.invariant.put c.in_ok-leave_step.ensures.put }

pub leave_steps-returns-clause-put : goal.leave_steps-returns-clause-put
leave_steps-returns-clause-put t c =
    left-whole c.args.tables.now c.args.strip c.args.steps.now c.loop-left.left (let q = c.loop-left-test.false in let z : c.loop-left.left ≡ 0 = omega (arith, q) in z) c.loop-left.invariant.put

pub leave_step-returns-in-Group-clause-put : goal.leave_step-returns-in-Group-clause-put
leave_step-returns-in-Group-clause-put t c =
    IfOk-weaker c.put_groups.result _ _ (λ x h. puts-as (step_left c.args.tables.now c.args.strip c.args.step.now) (group-copied c.args.tables.now c.args.strip c.in-Group.parameters c.deref.result.now c.args.step.now (group-is (reading c.args.tables.now) c.args.step.now c.in-Group.parameters c.in-Group.functions c.deref.result.now c.in-Group.is c.deref.ensures.value)) h) c.put_groups.ensures.put

pub leave_step-returns-in-Group-clause-too_large : goal.leave_step-returns-in-Group-clause-too_large
leave_step-returns-in-Group-clause-too_large t c =
    kept c.put_groups.result _ _ (λ h. passes-as (step_left c.args.tables.now c.args.strip c.args.step.now) (group-copied c.args.tables.now c.args.strip c.in-Group.parameters c.deref.result.now c.args.step.now (group-is (reading c.args.tables.now) c.args.step.now c.in-Group.parameters c.in-Group.functions c.deref.result.now c.in-Group.is c.deref.ensures.value)) h) c.put_groups.ensures.too_large

pub leave_step-returns-in-Some-clause-put : goal.leave_step-returns-in-Some-clause-put
leave_step-returns-in-Some-clause-put t c =
    IfOk-weaker c.put_copies.result _ _ (λ x h. puts-as (step_left c.args.tables.now c.args.strip c.args.step.now) (step-copied c.args.tables.now c.args.strip c.in-Some.binding c.args.step.now (c.in-Some.ensures c.args.tables.now)) h) c.put_copies.ensures.put

pub leave_step-returns-in-Some-clause-too_large : goal.leave_step-returns-in-Some-clause-too_large
leave_step-returns-in-Some-clause-too_large t c =
    kept c.put_copies.result _ _ (λ h. passes-as (step_left c.args.tables.now c.args.strip c.args.step.now) (step-copied c.args.tables.now c.args.strip c.in-Some.binding c.args.step.now (c.in-Some.ensures c.args.tables.now)) h) c.put_copies.ensures.too_large

pub leave_step-returns-in-None-clause-put : goal.leave_step-returns-in-None-clause-put
leave_step-returns-in-None-clause-put t c =
    IfOk-weaker c.leave_plain.result _ _ (λ x h. puts-as (step_left c.args.tables.now c.args.strip c.args.step.now) (λ H g s n. not-group c.args.tables.now c.args.step.now c.in_default.not-Group (c.in-None.ensures c.args.tables.now) c.args.strip g s n) h) c.leave_plain.ensures.put

pub leave_step-returns-in-None-clause-too_large : goal.leave_step-returns-in-None-clause-too_large
leave_step-returns-in-None-clause-too_large t c =
    kept c.leave_plain.result _ _ (λ h. passes-as (step_left c.args.tables.now c.args.strip c.args.step.now) (λ H g s n. not-group c.args.tables.now c.args.step.now c.in_default.not-Group (c.in-None.ensures c.args.tables.now) c.args.strip g s n) h) c.leave_plain.ensures.too_large

pub put_copies-put_further-requires : goal.put_copies-put_further-requires
put_copies-put_further-requires t c =
    (search rules, (ready-goes c.requires (c.leave_binding-lists.ensures.goes c.args.tables.now.types), subst (AllHeld (held_of c.leave_binding-lists.new.copier)) (sym c.deref.ensures.value) c.leave_binding-lists.ensures.held))

pub put_copies-unit_list-requires : goal.put_copies-unit_list-requires
put_copies-unit_list-requires t c =
    c.in_ok-put_further.ensures.put.goes.open_

pub put_copies-put_copy-requires : goal.put_copies-put_copy-requires
put_copies-put_copy-requires t c =
    (search rules, (ready-goes (ready-then (ready-goes c.requires (c.leave_binding-lists.ensures.goes c.args.tables.now.types)) c.in_ok-put_further.ensures.put) (c.in_ok-unit.ensures.goes c.args.tables.now.types), c.in_ok-unit.ensures.held))

pub put_copies-returns-in_err-put_further-clause-too_large : goal.put_copies-returns-in_err-put_further-clause-too_large
put_copies-returns-in_err-put_further-clause-too_large t c =
    passed c.from_residual.result c.in_err-put_further.field-0.0 c.from_residual.ensures.1 _ _ (further-passes c.args.tables.now c.args.strip c.args.binding c.args.step.now c.args.copier.now c.leave_binding-lists.new.copier c.deref.result.now (plain-puts out c.leave_binding-lists.ensures.goes c.leave_binding-lists.ensures.left) (λ H. ap (λ l. reverse (map (types_in H) l)) c.deref.ensures.value ∙ c.leave_binding-lists.ensures.lists (strings_of c.args.tables.now) H)) c.in_err-put_further.ensures.too_large

pub put_copies-returns-clause-put : goal.put_copies-returns-clause-put
put_copies-returns-clause-put t c =
    IfOk-weaker c.put_copy.result _ _ (λ x h. copies-put c.args.tables.now c.args.strip c.args.binding c.args.step.now c.args.copier.now c.leave_binding-lists.new.copier c.deref.result.now (plain-puts out c.leave_binding-lists.ensures.goes c.leave_binding-lists.ensures.left) (λ H. ap (λ l. reverse (map (types_in H) l)) c.deref.ensures.value ∙ c.leave_binding-lists.ensures.lists (strings_of c.args.tables.now) H) c.put_further.new.copier c.unit_list.new.copier c.in_ok-unit.unit c.in_ok-put_further.ensures.put (later-puts (λ n. n) c.in_ok-unit.ensures.goes (λ ss H l. c.in_ok-unit.ensures.stays ss H)) (λ H l. c.in_ok-unit.ensures.is H l ∙ ap units c.parameters.ensures) h) c.put_copy.ensures.put

pub put_copies-returns-clause-too_large : goal.put_copies-returns-clause-too_large
put_copies-returns-clause-too_large t c =
    kept c.put_copy.result _ _ (λ h. copies-passes c.args.tables.now c.args.strip c.args.binding c.args.step.now c.args.copier.now c.leave_binding-lists.new.copier c.deref.result.now (plain-puts out c.leave_binding-lists.ensures.goes c.leave_binding-lists.ensures.left) (λ H. ap (λ l. reverse (map (types_in H) l)) c.deref.ensures.value ∙ c.leave_binding-lists.ensures.lists (strings_of c.args.tables.now) H) c.put_further.new.copier c.unit_list.new.copier c.in_ok-unit.unit c.in_ok-put_further.ensures.put (later-puts (λ n. n) c.in_ok-unit.ensures.goes (λ ss H l. c.in_ok-unit.ensures.stays ss H)) (λ H l. c.in_ok-unit.ensures.is H l ∙ ap units c.parameters.ensures) h) c.put_copy.ensures.too_large

pub put_further-loop-i-init : goal.put_further-loop-i-init
put_further-loop-i-init t c =
    puts-nothing c.requires.ready

pub put_further-put_copy-requires : goal.put_further-put_copy-requires
put_further-put_copy-requires t c =
    (search rules, (ready-then c.requires.ready c.loop-i.invariant, still-held c.loop-i.invariant.goes.longer (held-at (held_of c.args.copier.now) c.args.lists.now c.loop-i.i c.loop-i-test.true c.requires.held)))

pub put_further-loop-i-preserved : goal.put_further-loop-i-preserved
put_further-loop-i-preserved t c =
    each-goes nothing (binding_put c.args.tables.now true c.args.binding c.args.step.now) _ (reverse (take c.loop-i.i c.args.lists.now)) (get_or c.args.lists.now c.loop-i.i 0) (turned-more c.args.lists.now c.loop-i.i 0 c.loop-i-test.true) c.loop-i.invariant c.in_ok-put_copy.ensures.put

pub put_further-returns-in_err-put_copy-clause-too_large : goal.put_further-returns-in_err-put_copy-clause-too_large
put_further-returns-in_err-put_copy-clause-too_large t c =
    passed c.from_residual.result c.in_err-put_copy.field-0.0 c.from_residual.ensures.1 _ _ (each-stops nothing (binding_put c.args.tables.now true c.args.binding c.args.step.now) (reverse c.args.lists.now) (reverse (drop (c.loop-i.i + 1) c.args.lists.now)) (reverse (take c.loop-i.i c.args.lists.now)) (get_or c.args.lists.now c.loop-i.i 0) (turned-whole c.args.lists.now c.loop-i.i 0 c.loop-i-test.true) (binding-put-grows c.args.tables.now true c.args.binding c.args.step.now) c.loop-i.invariant) c.in_err-put_copy.ensures.too_large

pub put_further-returns-clause-put : goal.put_further-returns-clause-put
put_further-returns-clause-put t c =
    subst (λ l. Puts c.args.tables.now (each_put (binding_put c.args.tables.now true c.args.binding c.args.step.now) (reverse l)) c.args.copier.now c.loop-i.copier) (take_all c.loop-i.i c.args.lists.now c.loop-i-test.false) c.loop-i.invariant

pub put_further_groups-loop-i-init : goal.put_further_groups-loop-i-init
put_further_groups-loop-i-init t c =
    puts-nothing c.requires.ready

pub put_further_groups-put_group-requires : goal.put_further_groups-put_group-requires
put_further_groups-put_group-requires t c =
    (search rules, (ready-then c.requires.ready c.loop-i.invariant, still-held c.loop-i.invariant.goes.longer (held-at (held_of c.args.copier.now) c.args.lists.now c.loop-i.i c.loop-i-test.true c.requires.held)))

pub put_further_groups-loop-i-preserved : goal.put_further_groups-loop-i-preserved
put_further_groups-loop-i-preserved t c =
    each-goes nothing (group_put c.args.tables.now c.args.parameters c.args.functions.now) _ (reverse (take c.loop-i.i c.args.lists.now)) (get_or c.args.lists.now c.loop-i.i 0) (turned-more c.args.lists.now c.loop-i.i 0 c.loop-i-test.true) c.loop-i.invariant c.in_ok-put_group.ensures.put

pub put_further_groups-returns-in_err-put_group-clause-too_large : goal.put_further_groups-returns-in_err-put_group-clause-too_large
put_further_groups-returns-in_err-put_group-clause-too_large t c =
    passed c.from_residual.result c.in_err-put_group.field-0.0 c.from_residual.ensures.1 _ _ (each-stops nothing (group_put c.args.tables.now c.args.parameters c.args.functions.now) (reverse c.args.lists.now) (reverse (drop (c.loop-i.i + 1) c.args.lists.now)) (reverse (take c.loop-i.i c.args.lists.now)) (get_or c.args.lists.now c.loop-i.i 0) (turned-whole c.args.lists.now c.loop-i.i 0 c.loop-i-test.true) (group-put-grows c.args.tables.now c.args.parameters c.args.functions.now) c.loop-i.invariant) c.in_err-put_group.ensures.too_large

pub put_further_groups-returns-clause-put : goal.put_further_groups-returns-clause-put
put_further_groups-returns-clause-put t c =
    subst (λ l. Puts c.args.tables.now (each_put (group_put c.args.tables.now c.args.parameters c.args.functions.now) (reverse l)) c.args.copier.now c.loop-i.copier) (take_all c.loop-i.i c.args.lists.now c.loop-i-test.false) c.loop-i.invariant

pub put_copy-put_act-requires : goal.put_copy-put_act-requires
put_copy-put_act-requires t c =
    (search rules, (record { open_ = c.in_ok-before.ensures.stands.open_; right = c.in_ok-before.ensures.stands.right c.args.tables.now.types c.requires.ready.right }))

pub put_copy-type_of-requires-clause-is_open : goal.put_copy-type_of-requires-clause-is_open
put_copy-type_of-requires-clause-is_open t c =
    c.in_ok-put_act.ensures.put.goes.open_

pub put_copy-type_of-requires-clause-right : goal.put_copy-type_of-requires-clause-right
put_copy-type_of-requires-clause-right t c =
    c.in_ok-put_act.ensures.put.goes.right (c.in_ok-before.ensures.stands.right c.args.tables.now.types c.requires.ready.right)

pub put_copy-returns-in_err-put_act-clause-too_large : goal.put_copy-returns-in_err-put_act-clause-too_large
put_copy-returns-in_err-put_act-clause-too_large t c =
    passed c.from_residual-in_err-put_act.result c.in_err-put_act.field-0.0 c.from_residual-in_err-put_act.ensures.1 _ _ (copy-passes c.args.tables.now c.args.copier.now c.stand_for.new.copier c.args.copier.now c.args.copier.now c.args.copier.now c.args.copier.now c.args.copier.now c.args.list c.parameters.result.now c.requires.ready (under-binding c.args.tables.now c.args.copier.now c.stand_for.new.copier c.parameters.result.now c.args.list c.in_ok-before.ensures.stands c.requires.held c.in_ok-before.ensures.stays) c.args.strip c.args.binding c.args.step.now c.parameters.ensures) c.in_err-put_act.ensures.too_large

pub put_copy-copy_at-requires : goal.put_copy-copy_at-requires
put_copy-copy_at-requires t c =
    (home c.args.tables.now c.args.copier.now c.type_of.new.copier c.stand_back.new.copier c.requires.ready c.in_ok-ty.ensures.goes.open_ (on-longer c.in_ok-before.ensures.stands.longer (on-longer c.in_ok-put_act.ensures.put.goes.longer c.in_ok-ty.ensures.goes.longer)) (c.in_ok-ty.ensures.goes.right (c.in_ok-put_act.ensures.put.goes.right (c.in_ok-before.ensures.stands.right c.args.tables.now.types c.requires.ready.right))) (is-back c.args.copier.now c.type_of.new.copier c.stand_back.new.copier c.parameters.result.now _ c.len-slots.result c.in_ok-before.before c.stand_back.new.copier.own c.in_ok-before.ensures.before (c.in_ok-ty.ensures.goes.slots ∙ c.in_ok-put_act.ensures.put.goes.slots ∙ c.in_ok-before.ensures.stands.slots) c.len-slots.ensures (ap (λ (k : Copier). k.own) c.stand_back.ensures ∙ own-stood c.len-slots.result c.in_ok-before.before c.type_of.new.copier ∙ c.in_ok-ty.ensures.goes.own ∙ c.in_ok-put_act.ensures.put.goes.own ∙ c.in_ok-before.ensures.stands.own) c.stand_back.ensures)).open_

pub put_copy-put-requires : goal.put_copy-put-requires
put_copy-put-requires t c =
    (c.in_ok-variable.ensures.goes []).open_

pub put_copy-returns-clause-put : goal.put_copy-returns-clause-put
put_copy-returns-clause-put t c =
    copy-put c.args.tables.now c.args.copier.now c.stand_for.new.copier c.put_act.new.copier c.type_of.new.copier c.stand_back.new.copier c.copy_at.new.copier c.put.new.self c.args.list c.parameters.result.now c.requires.ready (under-binding c.args.tables.now c.args.copier.now c.stand_for.new.copier c.parameters.result.now c.args.list c.in_ok-before.ensures.stands c.requires.held c.in_ok-before.ensures.stays) c.args.strip c.args.binding c.args.step.now c.in_ok-variable.variable c.in_ok-ty.ty c.parameters.ensures c.in_ok-put_act.ensures.put c.in_ok-ty.ensures.goes c.in_ok-ty.ensures.stays c.in_ok-ty.ensures.is (c.in_ok-before.ensures.stands.right c.args.tables.now.types c.requires.ready.right) (is-back c.args.copier.now c.type_of.new.copier c.stand_back.new.copier c.parameters.result.now _ c.len-slots.result c.in_ok-before.before c.stand_back.new.copier.own c.in_ok-before.ensures.before (c.in_ok-ty.ensures.goes.slots ∙ c.in_ok-put_act.ensures.put.goes.slots ∙ c.in_ok-before.ensures.stands.slots) c.len-slots.ensures (ap (λ (k : Copier). k.own) c.stand_back.ensures ∙ own-stood c.len-slots.result c.in_ok-before.before c.type_of.new.copier ∙ c.in_ok-ty.ensures.goes.own ∙ c.in_ok-put_act.ensures.put.goes.own ∙ c.in_ok-before.ensures.stands.own) c.stand_back.ensures) c.in_ok-variable.ensures.goes c.in_ok-variable.ensures.stays c.in_ok-variable.ensures.is c.in_ok-put.ensures.goes c.in_ok-put.ensures.put

pub put_group-own_functions-requires-clause-is_open : goal.put_group-own_functions-requires-clause-is_open
put_group-own_functions-requires-clause-is_open t c =
    c.in_ok-before.ensures.stands.open_

pub put_group-own_functions-requires-clause-held : goal.put_group-own_functions-requires-clause-held
put_group-own_functions-requires-clause-held t c =
    still-held c.in_ok-before.ensures.stands.longer c.requires.held

pub put_group-put_bodies-requires : goal.put_group-put_bodies-requires
put_group-put_bodies-requires t c =
    (search rules, record { open_ = c.in_ok-own_functions.ensures.is_open; right = (subst (IsRight c.args.tables.now.types) (sym (c.in_ok-own_functions.ensures.own c.args.tables.now)) (c.in_ok-before.ensures.stands.right c.args.tables.now.types c.requires.ready.right)) })

pub put_group-put_heads-requires-clause-is_open : goal.put_group-put_heads-requires-clause-is_open
put_group-put_heads-requires-clause-is_open t c =
    (c.in_ok-put_bodies.ensures.put c.args.list).goes.open_

pub put_group-put_heads-requires-clause-right : goal.put_group-put_heads-requires-clause-right
put_group-put_heads-requires-clause-right t c =
    (c.in_ok-put_bodies.ensures.put c.args.list).goes.right (subst (IsRight c.args.tables.now.types) (sym (c.in_ok-own_functions.ensures.own c.args.tables.now)) (c.in_ok-before.ensures.stands.right c.args.tables.now.types c.requires.ready.right))

pub put_group-returns-in_err-put_bodies-clause-too_large : goal.put_group-returns-in_err-put_bodies-clause-too_large
put_group-returns-in_err-put_bodies-clause-too_large t c =
    passed c.from_residual-in_err-put_bodies.result c.in_err-put_bodies.field-0.0 c.from_residual-in_err-put_bodies.ensures.1 _ _ (λ h. group-passes c.args.tables.now c.args.copier.now c.own_functions.new.copier c.args.copier.now c.args.copier.now c.args.copier.now c.args.copier.now c.args.list c.parameters.result.now c.requires.ready c.args.functions.now (under-group c.args.tables.now c.args.copier.now c.stand_for.new.copier c.own_functions.new.copier c.parameters.result.now c.args.list (functions_in c.args.tables.now c.args.functions.now) c.in_ok-before.ensures.stands c.requires.held c.in_ok-before.ensures.stays (c.in_ok-own_functions.ensures.own c.args.tables.now)) c.args.parameters c.parameters.ensures (h c.args.list)) c.in_err-put_bodies.ensures.too_large

pub put_group-put-requires : goal.put_group-put-requires
put_group-put-requires t c =
    (home c.args.tables.now c.args.copier.now c.put_heads.new.copier (record c.stand_back.new.copier { own = c.truncate.new.self }) c.requires.ready c.in_ok-put_heads.ensures.goes.open_ (on-longer c.in_ok-before.ensures.stands.longer (on-longer (subst (λ k. Longer (held_of c.stand_for.new.copier) (held_of k)) (sym (c.in_ok-own_functions.ensures.own c.args.tables.now)) (same-longer (held_of c.stand_for.new.copier))) (on-longer (c.in_ok-put_bodies.ensures.put c.args.list).goes.longer c.in_ok-put_heads.ensures.goes.longer))) (c.in_ok-put_heads.ensures.goes.right ((c.in_ok-put_bodies.ensures.put c.args.list).goes.right (subst (IsRight c.args.tables.now.types) (sym (c.in_ok-own_functions.ensures.own c.args.tables.now)) (c.in_ok-before.ensures.stands.right c.args.tables.now.types c.requires.ready.right)))) (is-back c.args.copier.now c.put_heads.new.copier c.stand_back.new.copier c.parameters.result.now _ c.len-slots.result c.in_ok-before.before c.truncate.new.self c.in_ok-before.ensures.before (c.in_ok-put_heads.ensures.goes.slots ∙ (c.in_ok-put_bodies.ensures.put c.args.list).goes.slots ∙ ap (λ (k : Copier). k.slots) (c.in_ok-own_functions.ensures.own c.args.tables.now) ∙ c.in_ok-before.ensures.stands.slots) c.len-slots.ensures (c.truncate.ensures ∙ taken-back c.stand_back.new.copier.own _ c.args.copier.now.own c.len-own.result (ap (λ (k : Copier). k.own) c.stand_back.ensures ∙ own-stood c.len-slots.result c.in_ok-before.before c.put_heads.new.copier ∙ c.in_ok-put_heads.ensures.goes.own ∙ (c.in_ok-put_bodies.ensures.put c.args.list).goes.own ∙ ap (λ (k : Copier). k.own) (c.in_ok-own_functions.ensures.own c.args.tables.now) ∙ ap (with_own (fun_vars (functions_in c.args.tables.now c.args.functions.now)) c.args.list) c.in_ok-before.ensures.stands.own ∙ own-front (fun_vars (functions_in c.args.tables.now c.args.functions.now)) c.args.list c.args.copier.now.own) c.len-own.ensures) c.stand_back.ensures)).open_

pub put_group-returns-clause-put : goal.put_group-returns-clause-put
put_group-returns-clause-put t c =
    group-put c.args.tables.now c.args.copier.now c.own_functions.new.copier c.put_bodies.new.copier c.put_heads.new.copier (record c.stand_back.new.copier { own = c.truncate.new.self }) c.put.new.self c.args.list c.parameters.result.now c.requires.ready c.args.functions.now (under-group c.args.tables.now c.args.copier.now c.stand_for.new.copier c.own_functions.new.copier c.parameters.result.now c.args.list (functions_in c.args.tables.now c.args.functions.now) c.in_ok-before.ensures.stands c.requires.held c.in_ok-before.ensures.stays (c.in_ok-own_functions.ensures.own c.args.tables.now)) c.args.parameters c.parameters.ensures (c.in_ok-put_bodies.ensures.put c.args.list) c.in_ok-put_heads.ensures.goes c.in_ok-put_heads.ensures.put (subst (IsRight c.args.tables.now.types) (sym (c.in_ok-own_functions.ensures.own c.args.tables.now)) (c.in_ok-before.ensures.stands.right c.args.tables.now.types c.requires.ready.right)) (is-back c.args.copier.now c.put_heads.new.copier c.stand_back.new.copier c.parameters.result.now _ c.len-slots.result c.in_ok-before.before c.truncate.new.self c.in_ok-before.ensures.before (c.in_ok-put_heads.ensures.goes.slots ∙ (c.in_ok-put_bodies.ensures.put c.args.list).goes.slots ∙ ap (λ (k : Copier). k.slots) (c.in_ok-own_functions.ensures.own c.args.tables.now) ∙ c.in_ok-before.ensures.stands.slots) c.len-slots.ensures (c.truncate.ensures ∙ taken-back c.stand_back.new.copier.own _ c.args.copier.now.own c.len-own.result (ap (λ (k : Copier). k.own) c.stand_back.ensures ∙ own-stood c.len-slots.result c.in_ok-before.before c.put_heads.new.copier ∙ c.in_ok-put_heads.ensures.goes.own ∙ (c.in_ok-put_bodies.ensures.put c.args.list).goes.own ∙ ap (λ (k : Copier). k.own) (c.in_ok-own_functions.ensures.own c.args.tables.now) ∙ ap (with_own (fun_vars (functions_in c.args.tables.now c.args.functions.now)) c.args.list) c.in_ok-before.ensures.stands.own ∙ own-front (fun_vars (functions_in c.args.tables.now c.args.functions.now)) c.args.list c.args.copier.now.own) c.len-own.ensures) c.stand_back.ensures) c.in_ok-put.ensures.goes c.in_ok-put.ensures.put

pub put_act-returns-in_ok-put_operation-in-Let-clause-put : goal.put_act-returns-in_ok-put_operation-in-Let-clause-put
put_act-returns-in_ok-put_operation-in-Let-clause-put t c =
    operation-acted c.args.tables.now c.args.strip c.args.step.now c.in-Let.field-0 c.in-Let.operation (let-is (reading c.args.tables.now) c.args.step.now c.in-Let.field-0 c.in-Let.operation c.in-Let.is) c.in_ok-put_operation-in-Let.ensures.goes c.in_ok-put_operation-in-Let.ensures.made

pub put_act-put-requires : goal.put_act-put-requires
put_act-put-requires t c =
    c.in_ok-put_function-in-Fn.ensures.put.goes.open_

pub put_act-returns-in_err-put_function-in-Fn-clause-too_large : goal.put_act-returns-in_err-put_function-in-Fn-clause-too_large
put_act-returns-in_err-put_function-in-Fn-clause-too_large t c =
    passed c.from_residual-in_err-put_function-in-Fn.result c.in_err-put_function-in-Fn.field-0.0 c.from_residual-in_err-put_function-in-Fn.ensures.1 _ _ (fn-passes c.args.tables.now c.args.strip c.args.step.now c.in-Fn.binding c.deref.result.now c.in-Fn.last c.deref-in-Fn.result.now (fn-is (reading c.args.tables.now) c.args.step.now c.in-Fn.binding c.in-Fn.parameters c.in-Fn.last c.in-Fn.body c.deref.result.now c.deref-in-Fn.result.now c.in-Fn.is c.deref.ensures.value c.deref-in-Fn.ensures)) c.in_err-put_function-in-Fn.ensures.too_large

pub put_act-returns-in_ok-put-in-Fn-clause-put : goal.put_act-returns-in_ok-put-in-Fn-clause-put
put_act-returns-in_ok-put-in-Fn-clause-put t c =
    fn-acted c.args.tables.now c.args.strip c.args.step.now c.in-Fn.binding c.deref.result.now c.in-Fn.last c.deref-in-Fn.result.now (fn-is (reading c.args.tables.now) c.args.step.now c.in-Fn.binding c.in-Fn.parameters c.in-Fn.last c.in-Fn.body c.deref.result.now c.deref-in-Fn.result.now c.in-Fn.is c.deref.ensures.value c.deref-in-Fn.ensures) c.in_ok-put_function-in-Fn.ensures.put (puts-word word.Fn c.in_ok-put-in-Fn.ensures.goes c.in_ok-put-in-Fn.ensures.put)

pub put_act-put-requires-in-Block : goal.put_act-put-requires-in-Block
put_act-put-requires-in-Block t c =
    c.in_ok-walk-in-Block.ensures.put.goes.open_

pub put_act-returns-in_err-walk-in-Block-clause-too_large : goal.put_act-returns-in_err-walk-in-Block-clause-too_large
put_act-returns-in_err-walk-in-Block-clause-too_large t c =
    passed c.from_residual-in_err-walk-in-Block.result c.in_err-walk-in-Block.field-0.0 c.from_residual-in_err-walk-in-Block.ensures.1 _ _ (block-passes c.args.tables.now c.args.strip c.args.step.now c.in-Block.field-0 c.deref-in-Block.result.now (block-is (reading c.args.tables.now) c.args.step.now c.in-Block.field-0 c.in-Block.body c.deref-in-Block.result.now c.in-Block.is c.deref-in-Block.ensures)) c.in_err-walk-in-Block.ensures.too_large

pub put_act-returns-in_ok-put-in-Block-clause-put : goal.put_act-returns-in_ok-put-in-Block-clause-put
put_act-returns-in_ok-put-in-Block-clause-put t c =
    block-acted c.args.tables.now c.args.strip c.args.step.now c.in-Block.field-0 c.deref-in-Block.result.now (block-is (reading c.args.tables.now) c.args.step.now c.in-Block.field-0 c.in-Block.body c.deref-in-Block.result.now c.in-Block.is c.deref-in-Block.ensures) c.in_ok-walk-in-Block.ensures.put (puts-word word.Block c.in_ok-put-in-Block.ensures.goes c.in_ok-put-in-Block.ensures.put)

pub put_act-walk-requires-in-Handle : goal.put_act-walk-requires-in-Handle
put_act-walk-requires-in-Handle t c =
    (omega (arith, c.decreases, handled-size c.args.step.now c.in-Handle.binding c.in-Handle.body c.in-Handle.packet c.in-Handle.handler c.deref-in-Handle-2.result.now c.in-Handle.is c.deref-in-Handle-2.ensures), ready-then c.requires c.in_ok-put_handler-in-Handle.ensures.put)

pub put_act-put-requires-in-Handle : goal.put_act-put-requires-in-Handle
put_act-put-requires-in-Handle t c =
    c.in_ok-walk-in-Handle.ensures.put.goes.open_

pub put_act-returns-in_err-put_handler-in-Handle-clause-too_large : goal.put_act-returns-in_err-put_handler-in-Handle-clause-too_large
put_act-returns-in_err-put_handler-in-Handle-clause-too_large t c =
    passed c.from_residual-in_err-put_handler-in-Handle.result c.in_err-put_handler-in-Handle.field-0.0 c.from_residual-in_err-put_handler-in-Handle.ensures.1 _ _ (handle-handler-passes c.args.tables.now c.args.strip c.args.step.now c.in-Handle.binding c.in-Handle.body.value c.deref-in-Handle.result.now c.in-Handle.packet (handle-is (reading c.args.tables.now) c.args.step.now c.in-Handle.binding c.in-Handle.body c.in-Handle.handler c.in-Handle.packet c.in-Handle.body.value c.deref-in-Handle.result.now c.in-Handle.is refl c.deref-in-Handle.ensures)) c.in_err-put_handler-in-Handle.ensures.too_large

pub put_act-returns-in_err-walk-in-Handle-clause-too_large : goal.put_act-returns-in_err-walk-in-Handle-clause-too_large
put_act-returns-in_err-walk-in-Handle-clause-too_large t c =
    passed c.from_residual-in_err-walk-in-Handle.result c.in_err-walk-in-Handle.field-0.0 c.from_residual-in_err-walk-in-Handle.ensures.1 _ _ (handle-walk-passes c.args.tables.now c.args.strip c.args.step.now c.in-Handle.binding c.deref-in-Handle-2.result.now c.deref-in-Handle.result.now c.in-Handle.packet (handle-is (reading c.args.tables.now) c.args.step.now c.in-Handle.binding c.in-Handle.body c.in-Handle.handler c.in-Handle.packet c.deref-in-Handle-2.result.now c.deref-in-Handle.result.now c.in-Handle.is c.deref-in-Handle-2.ensures c.deref-in-Handle.ensures) c.in_ok-put_handler-in-Handle.ensures.put) c.in_err-walk-in-Handle.ensures.too_large

pub put_act-returns-in_ok-put-in-Handle-clause-put : goal.put_act-returns-in_ok-put-in-Handle-clause-put
put_act-returns-in_ok-put-in-Handle-clause-put t c =
    handle-acted c.args.tables.now c.args.strip c.args.step.now c.in-Handle.binding c.deref-in-Handle-2.result.now c.deref-in-Handle.result.now c.in-Handle.packet (handle-is (reading c.args.tables.now) c.args.step.now c.in-Handle.binding c.in-Handle.body c.in-Handle.handler c.in-Handle.packet c.deref-in-Handle-2.result.now c.deref-in-Handle.result.now c.in-Handle.is c.deref-in-Handle-2.ensures c.deref-in-Handle.ensures) c.in_ok-put_handler-in-Handle.ensures.put c.in_ok-walk-in-Handle.ensures.put (puts-word word.Handle c.in_ok-put-in-Handle.ensures.goes c.in_ok-put-in-Handle.ensures.put)

pub put_act-returns-in_default : goal.put_act-returns-in_default
put_act-returns-in_default t c =
    record { put = puts-as (operation_put c.args.tables.now c.args.strip c.args.step.now) (λ H g s n. none-acted c.args.tables.now c.args.step.now c.in_default.not-Let c.in_default.not-Fn c.in_default.not-Block c.in_default.not-Handle c.args.strip g s n) (puts-nothing c.requires); too_large = tt }

pub put_handler-walk-requires : goal.put_handler-walk-requires
put_handler-walk-requires t c =
    (search rules, ready-goes c.requires (c.in_ok-enter_variable.ensures.goes c.args.tables.now.types))

pub put_handler-put_packet-requires : goal.put_handler-put_packet-requires
put_handler-put_packet-requires t c =
    ready-then (ready-goes c.requires (c.in_ok-enter_variable.ensures.goes c.args.tables.now.types)) c.in_ok-walk.ensures.put

pub put_handler-returns-in_err-walk-clause-too_large : goal.put_handler-returns-in_err-walk-clause-too_large
put_handler-returns-in_err-walk-clause-too_large t c =
    passed c.from_residual-in_err-walk.result c.in_err-walk.field-0.0 c.from_residual-in_err-walk.ensures.1 _ _ (handler-passes c.args.packet c.args.handler.now (plain-puts (within (variable c.args.packet)) c.in_ok-enter_variable.ensures.goes c.in_ok-enter_variable.ensures.entered)) c.in_err-walk.ensures.too_large

pub put_handler-returns-clause-put : goal.put_handler-returns-clause-put
put_handler-returns-clause-put t c =
    puts-then (puts-then (plain-puts (within (variable c.args.packet)) c.in_ok-enter_variable.ensures.goes c.in_ok-enter_variable.ensures.entered) c.in_ok-walk.ensures.put) c.in_ok-put_packet.ensures

pub put_function-enter_variable-requires : goal.put_function-enter_variable-requires
put_function-enter_variable-requires t c =
    (c.in_ok-enter_parameters.ensures.goes []).open_

pub put_function-walk-requires : goal.put_function-walk-requires
put_function-walk-requires t c =
    (search rules, (ready-goes (ready-goes c.requires (c.in_ok-enter_parameters.ensures.goes c.args.tables.now.types)) (c.in_ok-enter_variable.ensures.goes c.args.tables.now.types)))

pub put_function-leave_last-requires-clause-is_open : goal.put_function-leave_last-requires-clause-is_open
put_function-leave_last-requires-clause-is_open t c =
    c.in_ok-walk.ensures.put.goes.open_

pub put_function-leave_last-requires-clause-right : goal.put_function-leave_last-requires-clause-right
put_function-leave_last-requires-clause-right t c =
    c.in_ok-walk.ensures.put.goes.right (ready-goes (ready-goes c.requires (c.in_ok-enter_parameters.ensures.goes c.args.tables.now.types)) (c.in_ok-enter_variable.ensures.goes c.args.tables.now.types)).right

pub put_function-leave_parameters-requires-clause-is_open : goal.put_function-leave_parameters-requires-clause-is_open
put_function-leave_parameters-requires-clause-is_open t c =
    c.in_ok-leave_last.ensures.goes.open_

pub put_function-leave_parameters-requires-clause-right : goal.put_function-leave_parameters-requires-clause-right
put_function-leave_parameters-requires-clause-right t c =
    c.in_ok-leave_last.ensures.goes.right (c.in_ok-walk.ensures.put.goes.right (ready-goes (ready-goes c.requires (c.in_ok-enter_parameters.ensures.goes c.args.tables.now.types)) (c.in_ok-enter_variable.ensures.goes c.args.tables.now.types)).right)

pub put_function-returns-in_err-walk-clause-too_large : goal.put_function-returns-in_err-walk-clause-too_large
put_function-returns-in_err-walk-clause-too_large t c =
    passed c.from_residual-in_err-walk.result c.in_err-walk.field-0.0 c.from_residual-in_err-walk.ensures.1 _ _ (function-passes c.args.parameters.now c.args.last c.args.body.now (plain-puts (parameters_entered c.args.parameters.now) c.in_ok-enter_parameters.ensures.goes c.in_ok-enter_parameters.ensures.entered) (plain-puts (within (variable c.args.last.variable)) c.in_ok-enter_variable.ensures.goes c.in_ok-enter_variable.ensures.entered)) c.in_err-walk.ensures.too_large

pub put_function-returns-clause-put : goal.put_function-returns-clause-put
put_function-returns-clause-put t c =
    function-goes c.args.parameters.now c.args.last c.args.body.now (plain-puts (parameters_entered c.args.parameters.now) c.in_ok-enter_parameters.ensures.goes c.in_ok-enter_parameters.ensures.entered) (plain-puts (within (variable c.args.last.variable)) c.in_ok-enter_variable.ensures.goes c.in_ok-enter_variable.ensures.entered) c.in_ok-walk.ensures.put (types-puts (λ s n. with_sign (last_sign (copy_of c.args.last.variable []) (replace s (type_at c.args.tables.now.types c.args.last.ty))) (out n)) c.in_ok-leave_last.ensures.goes c.in_ok-leave_last.ensures.left) (types-puts (λ s n. parameters_left s c.args.tables.now.types c.args.parameters.now n) c.in_ok-leave_parameters.ensures.goes c.in_ok-leave_parameters.ensures.left)

pub put_bodies-loop-left-init : goal.put_bodies-loop-left-init
put_bodies-loop-left-init t c =
    record { within = omega arith; put = each-begins nothing (body_put c.args.tables.now) _ (drop_all (length c.args.functions.now) c.args.functions.now (omega arith)) (puts-nothing c.requires) }

pub put_bodies-put_function-requires : goal.put_bodies-put_function-requires
put_bodies-put_function-requires t c =
    let w = c.loop-left.invariant.within in let q = c.loop-left-test.true in let lt : c.loop-left.left - 1 < length c.args.functions.now = omega (arith, w, q) in (omega (arith, c.decreases, function-size c.args.functions.now (c.loop-left.left - 1) c.index-functions-left.result lt c.index-functions-left.is), ready-then c.requires c.loop-left.invariant.put)

pub put_bodies-returns-in_err-put_function-clause-too_large : goal.put_bodies-returns-in_err-put_function-clause-too_large
put_bodies-returns-in_err-put_function-clause-too_large t c =
    passed c.from_residual.result c.in_err-put_function.field-0.0 c.from_residual.ensures.1 _ _ ((let w = c.loop-left.invariant.within in let q = c.loop-left-test.true in let m : c.loop-left.left ≡ (c.loop-left.left - 1) + 1 = omega (arith, q) in let lt : c.loop-left.left - 1 < length c.args.functions.now = omega (arith, w, q) in λ h list. passes-as (bodies_put c.args.tables.now list c.args.functions.now) (bodies-whole c.args.tables.now list c.args.functions.now) (each-stops nothing (body_put c.args.tables.now) c.args.functions.now (take (c.loop-left.left - 1) c.args.functions.now) (drop c.loop-left.left c.args.functions.now) c.index-functions-left.result (part-whole c.args.functions.now (drop c.loop-left.left c.args.functions.now) c.index-functions-left.result (c.loop-left.left - 1) (dropped c.args.functions.now c.index-functions-left.result (c.loop-left.left - 1) c.loop-left.left m lt c.index-functions-left.is)) (body-grows c.args.tables.now) c.loop-left.invariant.put (subst (λ l. Passes c.args.tables.now (function_put c.args.tables.now l c.index-functions-left.result.last c.index-functions-left.result.body) c.loop-left.copier) c.deref.ensures.value h)))) c.in_err-put_function.ensures.too_large

pub put_bodies-loop-left-preserved : goal.put_bodies-loop-left-preserved
put_bodies-loop-left-preserved t c =
    let w = c.loop-left.invariant.within in let q = c.loop-left-test.true in let m : c.loop-left.left ≡ (c.loop-left.left - 1) + 1 = omega (arith, q) in let lt : c.loop-left.left - 1 < length c.args.functions.now = omega (arith, w, q) in record { within = omega (arith, w); put = each-goes nothing (body_put c.args.tables.now) (drop (c.loop-left.left - 1) c.args.functions.now) (drop c.loop-left.left c.args.functions.now) c.index-functions-left.result (dropped c.args.functions.now c.index-functions-left.result (c.loop-left.left - 1) c.loop-left.left m lt c.index-functions-left.is) c.loop-left.invariant.put (subst (λ l. Puts c.args.tables.now (function_put c.args.tables.now l c.index-functions-left.result.last c.index-functions-left.result.body) c.loop-left.copier c.put_function.new.copier) c.deref.ensures.value c.in_ok-put_function.ensures.put) }

pub put_bodies-returns-clause-put : goal.put_bodies-returns-clause-put
put_bodies-returns-clause-put t c =
    λ list. puts-as (bodies_put c.args.tables.now list c.args.functions.now) (bodies-whole c.args.tables.now list c.args.functions.now) (each-ends nothing (body_put c.args.tables.now) c.args.functions.now c.loop-left.left (let q = c.loop-left-test.false in let z : c.loop-left.left ≡ 0 = omega (arith, q) in z) c.loop-left.invariant.put)

pub put_groups-enter_group-requires : goal.put_groups-enter_group-requires
put_groups-enter_group-requires t c =
    (c.leave_binding-lists.ensures.goes []).open_

pub put_groups-put_further_groups-requires : goal.put_groups-put_further_groups-requires
put_groups-put_further_groups-requires t c =
    (search rules, ((ready-goes (ready-goes c.requires (c.leave_binding-lists.ensures.goes c.args.tables.now.types)) (c.in_ok-enter_group.ensures.goes c.args.tables.now.types)), subst (AllHeld (held_of c.enter_group.new.copier)) (sym c.deref.ensures.value) (still-all (c.in_ok-enter_group.ensures.goes []).longer c.leave_binding-lists.result.items c.leave_binding-lists.ensures.held)))

pub put_groups-unit_list-requires : goal.put_groups-unit_list-requires
put_groups-unit_list-requires t c =
    c.in_ok-put_further_groups.ensures.put.goes.open_

pub put_groups-put_group-requires : goal.put_groups-put_group-requires
put_groups-put_group-requires t c =
    (search rules, (ready-goes (ready-then (ready-goes (ready-goes c.requires (c.leave_binding-lists.ensures.goes c.args.tables.now.types)) (c.in_ok-enter_group.ensures.goes c.args.tables.now.types)) c.in_ok-put_further_groups.ensures.put) (c.in_ok-unit.ensures.goes c.args.tables.now.types), c.in_ok-unit.ensures.held))

pub put_groups-leave_variable-requires : goal.put_groups-leave_variable-requires
put_groups-leave_variable-requires t c =
    c.in_ok-put_group.ensures.put.goes.open_

pub put_groups-returns-in_err-put_further_groups-clause-too_large : goal.put_groups-returns-in_err-put_further_groups-clause-too_large
put_groups-returns-in_err-put_further_groups-clause-too_large t c =
    passed c.from_residual-in_err-put_further_groups.result c.in_err-put_further_groups.field-0.0 c.from_residual-in_err-put_further_groups.ensures.1 _ _ (further-groups-pass c.args.tables.now c.args.parameters c.args.functions.now c.args.copier.now c.leave_binding-lists.new.copier c.enter_group.new.copier c.deref.result.now (plain-puts out c.leave_binding-lists.ensures.goes c.leave_binding-lists.ensures.left) (λ H. ap (λ l. reverse (map (types_in H) l)) c.deref.ensures.value ∙ c.leave_binding-lists.ensures.lists (strings_of c.args.tables.now) H) (later-puts _ c.in_ok-enter_group.ensures.goes c.in_ok-enter_group.ensures.entered)) c.in_err-put_further_groups.ensures.too_large

pub put_groups-returns-in_err-put_group-clause-too_large : goal.put_groups-returns-in_err-put_group-clause-too_large
put_groups-returns-in_err-put_group-clause-too_large t c =
    passed c.from_residual-in_err-put_group.result c.in_err-put_group.field-0.0 c.from_residual-in_err-put_group.ensures.1 _ _ (groups-pass c.args.tables.now c.args.parameters c.args.functions.now c.args.copier.now c.leave_binding-lists.new.copier c.enter_group.new.copier c.deref.result.now (plain-puts out c.leave_binding-lists.ensures.goes c.leave_binding-lists.ensures.left) (λ H. ap (λ l. reverse (map (types_in H) l)) c.deref.ensures.value ∙ c.leave_binding-lists.ensures.lists (strings_of c.args.tables.now) H) (later-puts _ c.in_ok-enter_group.ensures.goes c.in_ok-enter_group.ensures.entered) c.put_further_groups.new.copier c.unit_list.new.copier c.in_ok-unit.unit c.in_ok-put_further_groups.ensures.put (later-puts (λ n. n) c.in_ok-unit.ensures.goes (λ ss H l. c.in_ok-unit.ensures.stays ss H)) (λ H l. c.in_ok-unit.ensures.is H l ∙ ap units c.parameters.ensures)) c.in_err-put_group.ensures.too_large

pub put_groups-returns-clause-put : goal.put_groups-returns-clause-put
put_groups-returns-clause-put t c =
    groups-put c.args.tables.now c.args.parameters c.args.functions.now c.args.copier.now c.leave_binding-lists.new.copier c.enter_group.new.copier c.deref.result.now (plain-puts out c.leave_binding-lists.ensures.goes c.leave_binding-lists.ensures.left) (λ H. ap (λ l. reverse (map (types_in H) l)) c.deref.ensures.value ∙ c.leave_binding-lists.ensures.lists (strings_of c.args.tables.now) H) (later-puts _ c.in_ok-enter_group.ensures.goes c.in_ok-enter_group.ensures.entered) c.put_further_groups.new.copier c.unit_list.new.copier c.in_ok-unit.unit c.in_ok-put_further_groups.ensures.put (later-puts (λ n. n) c.in_ok-unit.ensures.goes (λ ss H l. c.in_ok-unit.ensures.stays ss H)) (λ H l. c.in_ok-unit.ensures.is H l ∙ ap units c.parameters.ensures) c.in_ok-put_group.ensures.put (plain-puts out c.leave_variable.ensures.goes c.leave_variable.ensures.left)
