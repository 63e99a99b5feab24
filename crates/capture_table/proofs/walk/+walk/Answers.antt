use Rattle.std.proofs.Common.{◌≡◌, ◌+◌, ◌-◌, ◌<◌, ◌∙◌, ◌++◌, ◌∷◌, [], map, take, drop, length, get_or, ap, ap₂, sym, refl, subst, arith}
use Rattle.closure_convert.specs.Scope.{Scope}
use Rattle.capture_scope.specs.Seen.{members_of}
use Rattle.capture_scope.specs.Found.{pieces_of}
use Rattle.closure_convert.specs.Closed.{scope_of}
use Rattle.closure_convert.specs.Capture.{cut}
use Rattle.capture_scope.specs.Repeats.{Repeats}
use Rattle.capture_table.proofs.Levels.{captured-used}
use Rattle.capture_table.specs.Told.{entry, used_in, more, case_binds, backs, after, marks, members_told, first_parameter, function_table, exp_told, step_told, arm_told, function_told}
use Rattle.capture_table.proofs.Curried.{curried-parts, curried-told}
use Rattle.capture_table.proofs.Walking.{left-is, all-next, all-done, functions-next, functions-done, steps-next, after-next, marks-next, steps-done, after-done, marks-done, back-scope, back-next, told-kept}
use Rattle.plain_tree.specs.Sums.{joined, variables_of, binders_of, arm_binders}
use Rattle.closure_convert.specs.Scope.{names}
use Rattle.closure_convert.specs.Capture.{visible}
use Rattle.capture_scope.proofs.Repeating.{twice-passed, twice-kept, fault-passed, fault-kept}
use Rattle.capture_table.specs.Inner.{inner_binders}
use Rattle.capture_table.proofs.Twice.{first-twice, inner-twice, innermost-twice, step-fn-twice, step-group-twice, handled-twice, handler-twice, block-twice, others-twice, last-twice, steps-twice, rest-twice, switch-twice, attempts-twice, front-twice, bound-twice, part-at, part-twice, step-twice, binds-twice, arm-binds, body-twice, entered-twice, unbound-twice}
use Rattle.capture_table.proofs.walk.+walk.Goals as goal

pub walk_all-loop-i-preserved : goal.walk_all-loop-i-preserved
walk_all-loop-i-preserved t c = record {
  table = all-next exp_told c.args.attempts.now c.loop-i.i c.args.scope.now c.args.found.now c.loop-i.found c.index-attempts-i.result c.index-attempts-i.result c.loop-i.scope c.walk.new.found
      c.loop-i-test.true c.index-attempts-i.is c.loop-i.invariant.scope c.in_ok-walk.ensures.table c.loop-i.invariant.table;
  scope = c.in_ok-walk.ensures.scope ∙ c.loop-i.invariant.scope;
}

pub walk_arms-loop-i-preserved : goal.walk_arms-loop-i-preserved
walk_arms-loop-i-preserved t c = record {
  table = all-next arm_told c.args.arms.now c.loop-i.i c.args.scope.now c.args.found.now c.loop-i.found c.index-arms-i.result c.index-arms-i.result c.loop-i.scope c.walk_arm.new.found
      c.loop-i-test.true c.index-arms-i.is c.loop-i.invariant.scope c.in_ok-walk_arm.ensures.table c.loop-i.invariant.table;
  scope = c.in_ok-walk_arm.ensures.scope ∙ c.loop-i.invariant.scope;
}

pub walk_functions-loop-i-preserved : goal.walk_functions-loop-i-preserved
walk_functions-loop-i-preserved t c = record {
  table = functions-next function_told c.args.functions.now c.loop-i.i (pieces_of c.args.capture.now.pieces.items) c.args.capture.now.captured.items (members_of c.args.group.now) c.args.found.now c.loop-i.found
      c.index-functions-i.result c.index-functions-i.result c.loop-i.scope.group c.walk_member.new.found c.loop-i-test.true c.index-functions-i.is c.loop-i.invariant.group c.in_ok-walk_member.ensures.table c.loop-i.invariant.table;
  captured = c.in_ok-walk_member.ensures.captured ∙ c.loop-i.invariant.captured;
  group = c.in_ok-walk_member.ensures.group ∙ c.loop-i.invariant.group;
}

pub walk_steps-loop-i-preserved : goal.walk_steps-loop-i-preserved
walk_steps-loop-i-preserved t c =
    let b = c.in_ok-bind_step.ensures.scope ∙ ap (more (step_told c.index-steps-i.result).binds) c.in_ok-walk_step.ensures.scope in
    record {
      table = steps-next step_told c.args.steps.now c.loop-i.i c.index-steps-i.result c.index-steps-i.result c.args.scope.now c.loop-i.scope c.args.found.now c.loop-i.found c.walk_step.new.found
          c.loop-i-test.true c.index-steps-i.is c.loop-i.invariant.scope c.bind_step.new.scope b c.in_ok-walk_step.ensures.table c.loop-i.invariant.table;
      scope = after-next step_told c.args.steps.now c.loop-i.i c.index-steps-i.result c.index-steps-i.result c.args.scope.now c.loop-i.scope c.args.found.now c.loop-i.found c.walk_step.new.found
          c.loop-i-test.true c.index-steps-i.is c.loop-i.invariant.scope c.bind_step.new.scope b;
      seen = marks-next step_told c.args.steps.now c.loop-i.i c.index-steps-i.result c.index-steps-i.result c.args.scope.now c.loop-i.scope c.args.found.now c.loop-i.found c.walk_step.new.found
          c.loop-i-test.true c.index-steps-i.is c.loop-i.invariant.scope c.loop-i.seen.items c.push.new.self.items c.args.seen.now.items c.loop-i.invariant.seen
          (c.in_ok-push.ensures.items ∙ ap (λ n. c.loop-i.seen.items ++ n ∷ []) c.len.ensures);
    }

pub walk_steps-returns-clause-table : goal.walk_steps-returns-clause-table
walk_steps-returns-clause-table t c = steps-done step_told c.args.steps.now c.loop-i.i c.args.scope.now c.loop-i.scope c.args.found.now c.loop-i.found c.loop-i-test.false c.loop-i.invariant.table

pub walk_steps-returns-clause-scope : goal.walk_steps-returns-clause-scope
walk_steps-returns-clause-scope t c = after-done step_told c.args.steps.now c.loop-i.i c.args.scope.now c.loop-i.scope c.loop-i-test.false c.loop-i.invariant.scope

pub walk_steps-returns-clause-seen : goal.walk_steps-returns-clause-seen
walk_steps-returns-clause-seen t c = marks-done step_told c.args.steps.now c.loop-i.i c.args.scope.now c.loop-i.seen.items c.args.seen.now.items c.loop-i-test.false c.loop-i.invariant.seen

pub walk_others-loop-left-preserved : goal.walk_others-loop-left-preserved
walk_others-loop-left-preserved t c =
    let w = c.loop-left.invariant.within in
    let q = c.loop-left-test.true in
    let m : c.loop-left.left ≡ (c.loop-left.left - 1) + 1 = omega (arith, q) in
    let lt : c.loop-left.left - 1 < length c.args.steps.now = omega (arith, w, q) in
    let at : (s : Scope) → c.args.scope.now ≡ after (map step_told c.args.steps.now) s → c.args.seen.now ≡ marks (map step_told c.args.steps.now) s → c.leave_to.new.self ≡ after (map step_told (take (c.loop-left.left - 1) c.args.steps.now)) s = λ s p r. back-scope step_told c.args.steps.now c.loop-left.left (c.loop-left.left - 1) c.mark_at-mark.result 0 c.index-steps-left.result c.index-steps-left.result s c.loop-left.scope c.leave_to.new.self c.args.seen.now m lt c.index-steps-left.is c.mark_at-mark.ensures r
    (c.loop-left.invariant.scope s p r) c.leave_to.ensures in
    record {
      within = omega (arith, w);
      table = λ s es p r. back-next step_told c.args.steps.now c.loop-left.left (c.loop-left.left - 1) c.index-steps-left.result c.index-steps-left.result s c.leave_to.new.self c.args.found.now c.loop-left.found
          c.walk_back.new.found m lt c.index-steps-left.is (at s p r) c.in_ok-walk_back.ensures.table (λ l. c.loop-left.invariant.table s l p r) es;
      scope = λ s p r. c.in_ok-walk_back.ensures.scope ∙ at s p r;
    }

pub walk_others-returns-clause-table : goal.walk_others-returns-clause-table
walk_others-returns-clause-table t c = λ s es p r. c.loop-left.invariant.table s es p r
    ∙ ap (λ n. c.loop-left.found ++ backs (map step_told (take n c.args.steps.now)) s es) (let h = c.loop-left-test.false in let z : c.loop-left.left ≡ 0 = omega (arith, h) in z)

pub walk_others-returns-clause-scope : goal.walk_others-returns-clause-scope
walk_others-returns-clause-scope t c = λ s p r. c.loop-left.invariant.scope s p r ∙ ap (λ n. after (map step_told (take n c.args.steps.now)) s) (let h = c.loop-left-test.false in let z : c.loop-left.left ≡ 0 = omega (arith, h) in z)

pub walk_all-returns-clause-table : goal.walk_all-returns-clause-table
walk_all-returns-clause-table t c = all-done exp_told c.args.attempts.now c.loop-i.i c.args.scope.now c.args.found.now c.loop-i.found c.loop-i-test.false c.loop-i.invariant.table

pub walk_arms-returns-clause-table : goal.walk_arms-returns-clause-table
walk_arms-returns-clause-table t c = all-done arm_told c.args.arms.now c.loop-i.i c.args.scope.now c.args.found.now c.loop-i.found c.loop-i-test.false c.loop-i.invariant.table

pub walk_functions-returns-clause-table : goal.walk_functions-returns-clause-table
walk_functions-returns-clause-table t c =
    functions-done function_told c.args.functions.now c.loop-i.i (pieces_of c.args.capture.now.pieces.items) c.args.capture.now.captured.items (members_of c.args.group.now) c.args.found.now c.loop-i.found
    c.loop-i-test.false c.loop-i.invariant.table

pub walk_handler-returns-clause-scope : goal.walk_handler-returns-clause-scope
walk_handler-returns-clause-scope t c = left-is (c.args.packet ∷ []) c.args.scope.now c.walk.new.scope c.leave_to.new.self c.len-len.result c.len-len.ensures (c.in_ok-walk.ensures.scope ∙ c.in_ok-add.ensures.ok) c.leave_to.ensures

pub walk_arm-returns-clause-scope : goal.walk_arm-returns-clause-scope
walk_arm-returns-clause-scope t c = left-is (case_binds c.args.arm.now.case) c.args.scope.now c.walk.new.scope c.leave_to.new.self c.len-len.result c.len-len.ensures (c.in_ok-walk.ensures.scope ∙ c.in_ok-bind_case.ensures.scope) c.leave_to.ensures

pub walk_body-returns-clause-table : goal.walk_body-returns-clause-table
walk_body-returns-clause-table t c = λ es. ap (λ (z : Scope). c.args.found.now ++ (exp_told c.args.body.now).table z es) (sym c.in_ok-begin.ensures.ok) ∙ c.in_ok-walk.ensures.table es

-- Where the walk stops for a variable that is bound twice

pub walk_steps-returns-in_err-walk_step-clause-twice : goal.walk_steps-returns-in_err-walk_step-clause-twice
walk_steps-returns-in_err-walk_step-clause-twice t c =
    twice-passed c.from_residual-in_err-walk_step.result c.in_err-walk_step.field-0.0 c.from_residual-in_err-walk_step.ensures.1 _ _
    (step-twice c.args.steps.now c.loop-i.i c.index-steps-i.result c.index-steps-i.result c.args.scope.now c.loop-i.scope c.loop-i-test.true c.index-steps-i.is c.loop-i.invariant.scope) c.in_err-walk_step.ensures.twice

pub walk_steps-returns-in_err-bind_step-clause-twice : goal.walk_steps-returns-in_err-bind_step-clause-twice
walk_steps-returns-in_err-bind_step-clause-twice t c =
    twice-passed c.from_residual-in_err-bind_step.result c.in_err-bind_step.field-0.0 c.from_residual-in_err-bind_step.ensures.1 _ _
    (λ r. step-twice c.args.steps.now c.loop-i.i c.index-steps-i.result c.index-steps-i.result c.args.scope.now c.walk_step.new.scope c.loop-i-test.true c.index-steps-i.is (c.in_ok-walk_step.ensures.scope ∙ c.loop-i.invariant.scope)
    (binds-twice c.walk_step.new.scope c.index-steps-i.result r)) c.in_err-bind_step.ensures.twice

pub walk_others-returns-in_err-walk_back-clause-twice : goal.walk_others-returns-in_err-walk_back-clause-twice
walk_others-returns-in_err-walk_back-clause-twice t c =
    let w = c.loop-left.invariant.within in
    let q = c.loop-left-test.true in
    let m : c.loop-left.left ≡ (c.loop-left.left - 1) + 1 = omega (arith, q) in
    let lt : c.loop-left.left - 1 < length c.args.steps.now = omega (arith, w, q) in
    fault-passed c.from_residual.result c.in_err-walk_back.field-0.0 c.from_residual.ensures.1 _ _
    (λ v s p r. step-twice c.args.steps.now (c.loop-left.left - 1) c.index-steps-left.result c.index-steps-left.result s c.leave_to.new.self lt c.index-steps-left.is
    (back-scope step_told c.args.steps.now c.loop-left.left (c.loop-left.left - 1) c.mark_at-mark.result 0 c.index-steps-left.result c.index-steps-left.result s c.loop-left.scope c.leave_to.new.self c.args.seen.now m lt c.index-steps-left.is c.mark_at-mark.ensures r
    (c.loop-left.invariant.scope s p r) c.leave_to.ensures) v) c.in_err-walk_back.ensures.twice

pub walk_all-returns-in_err-walk-clause-twice : goal.walk_all-returns-in_err-walk-clause-twice
walk_all-returns-in_err-walk-clause-twice t c =
    twice-passed c.from_residual.result c.in_err-walk.field-0.0 c.from_residual.ensures.1 _ _
    (part-at binders_of c.args.scope.now c.loop-i.scope c.args.attempts.now c.loop-i.i c.index-attempts-i.result c.index-attempts-i.result c.loop-i-test.true c.index-attempts-i.is c.loop-i.invariant.scope) c.in_err-walk.ensures.twice

pub walk_arms-returns-in_err-walk_arm-clause-twice : goal.walk_arms-returns-in_err-walk_arm-clause-twice
walk_arms-returns-in_err-walk_arm-clause-twice t c =
    twice-passed c.from_residual.result c.in_err-walk_arm.field-0.0 c.from_residual.ensures.1 _ _
    (part-at arm_binders c.args.scope.now c.loop-i.scope c.args.arms.now c.loop-i.i c.index-arms-i.result c.index-arms-i.result c.loop-i-test.true c.index-arms-i.is c.loop-i.invariant.scope) c.in_err-walk_arm.ensures.twice

pub walk_arm-returns-in_err-bind_case-clause-twice : goal.walk_arm-returns-in_err-bind_case-clause-twice
walk_arm-returns-in_err-bind_case-clause-twice t c =
    twice-passed c.from_residual.result c.in_err-bind_case.field-0.0 c.from_residual.ensures.1 _ _
    (front-twice (visible c.args.scope.now) (case_binds c.args.arm.now.case) (binders_of c.args.arm.now.body) (arm_binders c.args.arm.now) (arm-binds c.args.arm.now)) c.in_err-bind_case.ensures.twice

pub walk_arm-returns-in_err-walk-clause-twice : goal.walk_arm-returns-in_err-walk-clause-twice
walk_arm-returns-in_err-walk-clause-twice t c =
    twice-passed c.from_residual-in_err-walk.result c.in_err-walk.field-0.0 c.from_residual-in_err-walk.ensures.1 _ _
    (bound-twice (case_binds c.args.arm.now.case) (binders_of c.args.arm.now.body) (arm_binders c.args.arm.now) c.args.scope.now c.bind_case.new.scope c.in_ok-bind_case.ensures.scope (arm-binds c.args.arm.now)) c.in_err-walk.ensures.twice

pub walk_handler-returns-in_err-add-clause-twice : goal.walk_handler-returns-in_err-add-clause-twice
walk_handler-returns-in_err-add-clause-twice t c =
    twice-passed c.from_residual.result c.in_err-add.field-0.0 c.from_residual.ensures.1 _ _
    (front-twice (visible c.args.scope.now) (c.args.packet ∷ []) (binders_of c.args.handler.now) (c.args.packet ∷ binders_of c.args.handler.now) refl) c.in_err-add.ensures.twice

pub walk_handler-returns-in_err-walk-clause-twice : goal.walk_handler-returns-in_err-walk-clause-twice
walk_handler-returns-in_err-walk-clause-twice t c =
    twice-passed c.from_residual-in_err-walk.result c.in_err-walk.field-0.0 c.from_residual-in_err-walk.ensures.1 _ _
    (bound-twice (c.args.packet ∷ []) (binders_of c.args.handler.now) (c.args.packet ∷ binders_of c.args.handler.now) c.args.scope.now c.add.new.self c.in_ok-add.ensures.ok refl) c.in_err-walk.ensures.twice

pub walk_functions-returns-in_err-walk_member-clause-twice : goal.walk_functions-returns-in_err-walk_member-clause-twice
walk_functions-returns-in_err-walk_member-clause-twice t c =
    twice-passed c.from_residual-in_err-walk_member.result c.in_err-walk_member.field-0.0 c.from_residual-in_err-walk_member.ensures.1 _ _
    (λ r. part-twice inner_binders (c.args.capture.now.captured.items ++ names (members_of c.args.group.now)) c.args.functions.now c.loop-i.i c.index-functions-i.result c.index-functions-i.result c.loop-i-test.true c.index-functions-i.is
    (subst (λ m. Repeats ((c.args.capture.now.captured.items ++ names m) ++ inner_binders c.index-functions-i.result)) c.loop-i.invariant.group r)) c.in_err-walk_member.ensures.twice

pub walk_functions-returns-in_err-scope-clause-twice : goal.walk_functions-returns-in_err-scope-clause-twice
walk_functions-returns-in_err-scope-clause-twice t c =
    twice-passed c.from_residual.result c.in_err-scope.field-0.0 c.from_residual.ensures.1 _ _
    (unbound-twice c.args.capture.now.captured.items c.deref.result.now (members_of c.args.group.now) (joined (map inner_binders c.args.functions.now)) c.deref.ensures.value) c.in_err-scope.ensures.twice

pub walk_alone-returns-in_err-scope-clause-twice : goal.walk_alone-returns-in_err-scope-clause-twice
walk_alone-returns-in_err-scope-clause-twice t c =
    twice-passed c.from_residual.result c.in_err-scope.field-0.0 c.from_residual.ensures.1 _ _
    (unbound-twice c.args.capture.now.captured.items c.deref.result.now [] (variables_of c.args.parameters.now ++ c.args.last.variable ∷ binders_of c.args.body.now) c.deref.ensures.value) c.in_err-scope.ensures.twice

pub walk_body-returns-in_err-begin-clause-twice : goal.walk_body-returns-in_err-begin-clause-twice
walk_body-returns-in_err-begin-clause-twice t c =
    twice-passed c.from_residual.result c.in_err-begin.field-0.0 c.from_residual.ensures.1 _ _
    (entered-twice c.args.scope.now.captured c.args.scope.now.captured c.args.scope.now.group c.args.last.variable (binders_of c.args.body.now) refl) c.in_err-begin.ensures.twice

pub walk_body-returns-in_err-walk-clause-twice : goal.walk_body-returns-in_err-walk-clause-twice
walk_body-returns-in_err-walk-clause-twice t c =
    twice-passed c.from_residual-in_err-walk.result c.in_err-walk.field-0.0 c.from_residual-in_err-walk.ensures.1 _ _
    (body-twice c.args.scope.now.captured c.args.scope.now.captured c.args.scope.now.group c.args.last.variable (binders_of c.args.body.now) c.begin.new.self refl c.in_ok-begin.ensures.ok) c.in_err-walk.ensures.twice

pub walk-returns-in_err-walk_steps-in-Steps-clause-twice : goal.walk-returns-in_err-walk_steps-in-Steps-clause-twice
walk-returns-in_err-walk_steps-in-Steps-clause-twice t c =
    twice-passed c.from_residual.result c.in_err-walk_steps-in-Steps.field-0.0 c.from_residual.ensures.1 _ _
    (steps-twice (visible c.args.scope.now) c.args.e.now c.in-Steps.steps c.in-Steps.rest c.deref.result.now c.in-Steps.is c.deref.ensures.value) c.in_err-walk_steps-in-Steps.ensures.twice

pub walk-returns-in_err-walk-in-Steps-clause-twice : goal.walk-returns-in_err-walk-in-Steps-clause-twice
walk-returns-in_err-walk-in-Steps-clause-twice t c =
    twice-passed c.from_residual-in_err-walk-in-Steps.result c.in_err-walk-in-Steps.field-0.0 c.from_residual-in_err-walk-in-Steps.ensures.1 _ _
    (rest-twice c.args.scope.now c.walk_steps.new.scope c.args.e.now c.deref-in-Steps.result.now c.in-Steps.steps c.in-Steps.rest c.deref.result.now c.in-Steps.is c.deref.ensures.value c.deref-in-Steps.ensures c.in_ok-walk_steps-in-Steps.ensures.scope) c.in_err-walk-in-Steps.ensures.twice

pub walk-returns-in_ok-walk-in-Steps-clause-twice : goal.walk-returns-in_ok-walk-in-Steps-clause-twice
walk-returns-in_ok-walk-in-Steps-clause-twice t c =
    let same = c.deref.ensures.value ∙ sym c.deref-in-Steps-2.ensures.value in
    fault-kept c.walk_others.result _ _
    (λ h. steps-twice (visible c.args.scope.now) c.args.e.now c.in-Steps.steps c.in-Steps.rest c.deref-in-Steps-2.result.now c.in-Steps.is c.deref-in-Steps-2.ensures.value
    (h c.args.scope.now (c.in_ok-walk-in-Steps.ensures.scope ∙ c.in_ok-walk_steps-in-Steps.ensures.scope ∙ ap (λ l. after (map step_told l) c.args.scope.now) same)
    (c.deref-in-Steps-3.ensures.value ∙ c.in_ok-walk_steps-in-Steps.ensures.seen ∙ ap (λ l. l ++ marks (map step_told c.deref.result.now) c.args.scope.now) c.new-seen.ensures.items ∙ ap (λ l. marks (map step_told l) c.args.scope.now) same)))
    c.walk_others.ensures.twice

pub walk-returns-in-Switch-clause-twice : goal.walk-returns-in-Switch-clause-twice
walk-returns-in-Switch-clause-twice t c =
    twice-kept c.walk_arms.result _ _ (switch-twice (visible c.args.scope.now) c.args.e.now _ _ c.in-Switch.arms c.deref-in-Switch.result.now c.in-Switch.is c.deref-in-Switch.ensures.value) c.walk_arms.ensures.twice

pub walk-returns-in_err-walk_all-in-First-clause-twice : goal.walk-returns-in_err-walk_all-in-First-clause-twice
walk-returns-in_err-walk_all-in-First-clause-twice t c =
    twice-passed c.from_residual-in_err-walk_all-in-First.result c.in_err-walk_all-in-First.field-0.0 c.from_residual-in_err-walk_all-in-First.ensures.1 _ _
    (attempts-twice (visible c.args.scope.now) c.args.e.now c.in-First.attempts c.in-First.last c.deref-in-First.result.now c.in-First.is c.deref-in-First.ensures.value) c.in_err-walk_all-in-First.ensures.twice

pub walk-returns-in_err-walk-in-First-clause-twice : goal.walk-returns-in_err-walk-in-First-clause-twice
walk-returns-in_err-walk-in-First-clause-twice t c =
    twice-passed c.from_residual-in_err-walk-in-First.result c.in_err-walk-in-First.field-0.0 c.from_residual-in_err-walk-in-First.ensures.1 _ _
    (λ r. last-twice (visible c.args.scope.now) c.args.e.now c.in-First.attempts c.in-First.last c.deref-in-First-2.result.now c.in-First.is c.deref-in-First-2.ensures
    (subst (λ z. Repeats (visible z ++ binders_of c.deref-in-First-2.result.now)) c.in_ok-walk_all-in-First.ensures.scope r)) c.in_err-walk-in-First.ensures.twice

pub walk_back-returns-in-Test-clause-twice : goal.walk_back-returns-in-Test-clause-twice
walk_back-returns-in-Test-clause-twice t c =
    twice-kept c.walk_arms.result _ _ (others-twice c.args.scope.now c.args.step.now c.in-Test.atom c.in-Test.ty c.in-Test.case c.in-Test.others c.deref.result.now c.in-Test.is c.deref.ensures.value) c.walk_arms.ensures.twice

pub walk_step-returns-in-Block-clause-twice : goal.walk_step-returns-in-Block-clause-twice
walk_step-returns-in-Block-clause-twice t c =
    twice-kept c.walk.result _ _ (block-twice c.args.scope.now c.args.step.now c.in-Block.field-0 c.in-Block.body c.deref-in-Block.result.now c.in-Block.is c.deref-in-Block.ensures) c.walk.ensures.twice

pub walk_step-returns-in_err-walk-in-Handle-clause-twice : goal.walk_step-returns-in_err-walk-in-Handle-clause-twice
walk_step-returns-in_err-walk-in-Handle-clause-twice t c =
    twice-passed c.from_residual-in_err-walk-in-Handle.result c.in_err-walk-in-Handle.field-0.0 c.from_residual-in_err-walk-in-Handle.ensures.1 _ _
    (handled-twice c.args.scope.now c.args.step.now c.in-Handle.binding c.in-Handle.body c.in-Handle.packet c.in-Handle.handler c.deref-in-Handle.result.now c.in-Handle.is c.deref-in-Handle.ensures) c.in_err-walk-in-Handle.ensures.twice

pub walk_step-returns-in_ok-walk-in-Handle-clause-twice : goal.walk_step-returns-in_ok-walk-in-Handle-clause-twice
walk_step-returns-in_ok-walk-in-Handle-clause-twice t c =
    twice-kept c.walk_handler.result _ _
    (handler-twice c.args.scope.now c.args.step.now c.in-Handle.binding c.in-Handle.body c.in-Handle.packet c.in-Handle.handler c.deref-in-Handle-2.result.now c.walk-in-Handle.new.scope c.in-Handle.is c.deref-in-Handle-2.ensures
    c.in_ok-walk-in-Handle.ensures.scope) c.walk_handler.ensures.twice

pub walk_step-returns-in_ok-capture-in-Fn-clause-twice : goal.walk_step-returns-in_ok-capture-in-Fn-clause-twice
walk_step-returns-in_ok-capture-in-Fn-clause-twice t c =
    twice-kept c.walk_alone.result _ _
    (step-fn-twice c.args.scope.now c.args.step.now _ c.in_ok-capture-in-Fn.capture.captured.items c.in-Fn.binding c.in-Fn.parameters c.in-Fn.last c.in-Fn.body c.deref-in-Fn-2.result.now c.deref-in-Fn-3.result.now c.in-Fn.is
    c.deref-in-Fn-2.ensures.value c.deref-in-Fn-3.ensures c.in_ok-capture-in-Fn.ensures.captured) c.walk_alone.ensures.twice

pub walk_step-returns-in_ok-capture-in-Group-clause-twice : goal.walk_step-returns-in_ok-capture-in-Group-clause-twice
walk_step-returns-in_ok-capture-in-Group-clause-twice t c =
    twice-kept c.walk_functions.result _ _
    (step-group-twice c.args.scope.now c.args.step.now _ c.in_ok-capture-in-Group.capture.captured.items (members_of c.deref-in-Group-4.result.now) c.in-Group.field-0 c.in-Group.functions c.deref-in-Group-5.result.now c.in-Group.is
    c.deref-in-Group-5.ensures.value c.in_ok-capture-in-Group.ensures.captured
    (ap members_of c.deref-in-Group-4.ensures.value ∙ c.in_ok-group-in-Group.ensures ∙ ap (λ l. members_told (map function_told l)) (c.deref-in-Group-2.ensures.value ∙ sym c.deref-in-Group-5.ensures.value))) c.walk_functions.ensures.twice

-- A curried function

pub walk_function-push_inner-requires : goal.walk_function-push_inner-requires
walk_function-push_inner-requires t c = captured-used (scope_of c.args.scope.now.captured c.args.scope.now.group c.number_of-number.result) c.args.uses.now c.in_ok-inner.inner.captured.items c.in_ok-inner.ensures.captured

pub walk_function-returns-in_err-inner-clause-twice : goal.walk_function-returns-in_err-inner-clause-twice
walk_function-returns-in_err-inner-clause-twice t c =
    let vs = c.args.capture.now.captured.items ++ names c.args.scope.now.group in
    let zs = c.args.last.variable ∷ binders_of c.args.body.now in
    let a = curried-parts c.args.parameters.now (drop 1 c.args.parameters.now) c.args.last c.is_empty.result c.is_empty.ensures c.if-is_empty.false refl in
    twice-passed c.from_residual-in_err-inner.result c.in_err-inner.field-0.0 c.from_residual-in_err-inner.ensures.1 _ _
    (λ r. subst (λ l. Repeats (vs ++ (variables_of l ++ zs))) (sym a)
    (first-twice vs (get_or c.args.parameters.now 0 c.args.last) c.args.last (drop 1 c.args.parameters.now) zs c.number_of-number.result (c.number_of-number.ensures ∙ ap (λ l. first_parameter l c.args.last) a)
    (subst (λ l. Repeats ((l ++ names c.args.scope.now.group) ++ c.number_of-number.result ∷ [])) (sym c.requires) r))) c.in_err-inner.ensures.twice

pub walk_function-returns-in_err-innermost-clause-twice : goal.walk_function-returns-in_err-innermost-clause-twice
walk_function-returns-in_err-innermost-clause-twice t c =
    let a = curried-parts c.args.parameters.now c.rest_of.result.now c.args.last c.is_empty.result c.is_empty.ensures c.if-is_empty.false c.rest_of.ensures in
    twice-passed c.from_residual-in_err-innermost.result c.in_err-innermost.field-0.0 c.from_residual-in_err-innermost.ensures.1 _ _
    (inner-twice [] c.args.capture.now.captured.items c.args.scope.now.group (get_or c.args.parameters.now 0 c.args.last) c.args.last c.rest_of.result.now c.args.parameters.now c.number_of-number.result c.args.uses.now (binders_of c.args.body.now)
    c.in_ok-inner.inner.captured.items a (c.number_of-number.ensures ∙ ap (λ l. first_parameter l c.args.last) a)
    (c.in_ok-inner.ensures.captured ∙ ap (λ l. used_in (scope_of l c.args.scope.now.group c.number_of-number.result) c.args.uses.now) (sym c.requires))) c.in_err-innermost.ensures.twice

pub walk_function-returns-in_err-own-clause-twice : goal.walk_function-returns-in_err-own-clause-twice
walk_function-returns-in_err-own-clause-twice t c =
    let a = curried-parts c.args.parameters.now c.rest_of.result.now c.args.last c.is_empty.result c.is_empty.ensures c.if-is_empty.false c.rest_of.ensures in
    twice-passed c.from_residual-in_err-own.result c.in_err-own.field-0.0 c.from_residual-in_err-own.ensures.1 _ _
    (λ r. innermost-twice [] c.args.capture.now.captured.items c.args.scope.now.group (get_or c.args.parameters.now 0 c.args.last) c.args.last c.rest_of.result.now c.args.parameters.now c.number_of-number.result c.args.uses.now (binders_of c.args.body.now)
    c.in_ok-inner.inner.captured.items a (c.number_of-number.ensures ∙ ap (λ l. first_parameter l c.args.last) a)
    (c.in_ok-inner.ensures.captured ∙ ap (λ l. used_in (scope_of l c.args.scope.now.group c.number_of-number.result) c.args.uses.now) (sym c.requires)) c.in_ok-innermost.innermost.items c.in_ok-innermost.ensures.within
    (unbound-twice c.in_ok-innermost.innermost.items c.deref-3.result.now [] (c.args.last.variable ∷ binders_of c.args.body.now) c.deref-3.ensures.value r))
    c.in_err-own.ensures.twice

pub walk_function-returns-in_err-walk_body-clause-twice : goal.walk_function-returns-in_err-walk_body-clause-twice
walk_function-returns-in_err-walk_body-clause-twice t c =
    let a = curried-parts c.args.parameters.now c.rest_of.result.now c.args.last c.is_empty.result c.is_empty.ensures c.if-is_empty.false c.rest_of.ensures in
    twice-passed c.from_residual-in_err-walk_body.result c.in_err-walk_body.field-0.0 c.from_residual-in_err-walk_body.ensures.1 _ _
    (λ r. innermost-twice [] c.args.capture.now.captured.items c.args.scope.now.group (get_or c.args.parameters.now 0 c.args.last) c.args.last c.rest_of.result.now c.args.parameters.now c.number_of-number.result c.args.uses.now (binders_of c.args.body.now)
    c.in_ok-inner.inner.captured.items a (c.number_of-number.ensures ∙ ap (λ l. first_parameter l c.args.last) a)
    (c.in_ok-inner.ensures.captured ∙ ap (λ l. used_in (scope_of l c.args.scope.now.group c.number_of-number.result) c.args.uses.now) (sym c.requires)) c.in_ok-innermost.innermost.items c.in_ok-innermost.ensures.within
    (subst (λ (s : Scope). Repeats ((s.captured ++ names s.group) ++ c.args.last.variable ∷ binders_of c.args.body.now))
    (c.in_ok-own.ensures.ok ∙ ap (λ l. record { locals = []; group = []; captured = l }) c.deref-3.ensures.value) r))
    c.in_err-walk_body.ensures.twice

pub walk_function-returns-clause-table : goal.walk_function-returns-clause-table
walk_function-returns-clause-table t c = λ es.
    let a = curried-parts c.args.parameters.now c.rest_of.result.now c.args.last c.is_empty.result c.is_empty.ensures c.if-is_empty.false c.rest_of.ensures in
    let T = (exp_told c.args.body.now).table in
    curried-told c.args.uses.now c.args.last T c.args.parameters.now c.rest_of.result.now (get_or c.args.parameters.now 0 c.args.last) a c.number_of-number.result (c.number_of-number.ensures ∙ ap (λ l. first_parameter l c.args.last) a)
    (pieces_of c.args.capture.now.pieces.items) (pieces_of c.in_ok-inner.inner.pieces.items) c.args.capture.now.captured.items c.in_ok-inner.inner.captured.items c.args.scope.now.group
    (c.in_ok-inner.ensures.captured ∙ ap (λ l. used_in (scope_of l c.args.scope.now.group c.number_of-number.result) c.args.uses.now) (sym c.requires))
    (c.in_ok-inner.ensures.pieces ∙ ap (λ l. cut (scope_of l c.args.scope.now.group c.number_of-number.result) (used_in (scope_of l c.args.scope.now.group c.number_of-number.result) c.args.uses.now)) (sym c.requires))
    c.args.found.now c.push.new.self c.walk_body-2.new.found
    (c.in_ok-push.ensures ∙ ap₂ (λ p l. c.args.found.now ++ entry c.number_of-number.result (pieces_of p) l ∷ []) c.deref-2.ensures.value c.deref.ensures.value) es
    (c.in_ok-innermost.ensures.table T es
    ∙ ap (λ (s : Scope). c.push_inner.new.found ++ T (scope_of s.captured s.group c.args.last.variable) es) (sym (c.in_ok-own.ensures.ok ∙ ap (λ l. record { locals = []; group = []; captured = l }) c.deref-3.ensures.value))
    ∙ c.in_ok-walk_body.ensures.table es)

-- A function of a group

pub walk_member-returns-clause-table : goal.walk_member-returns-clause-table
walk_member-returns-clause-table t c =
    let ps = pieces_of c.args.capture.now.pieces.items in
    let cs = c.args.capture.now.captured.items in
    let ms = c.args.scope.now.group in
    let T = (exp_told c.args.function.now.body).table in
    told-kept c.walk_function.result c.args.found.now c.walk_function.new.found ((function_told c.args.function.now).table ps cs ms) (function_table c.deref-2.result.now c.deref.result.now c.args.function.now.last T ps cs ms)
    (λ es. c.in_ok-uses.ensures ps cs ms es ∙ ap₂ (λ us xs. function_table us xs c.args.function.now.last T ps cs ms es) (sym c.deref-2.ensures.value) (sym c.deref.ensures.value)) c.walk_function.ensures.table
