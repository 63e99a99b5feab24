use Rattle.std.proofs.Common.{subst}
use Rattle.ssa_tree.specs.declared.tree.Step.{Step}
use Rattle.ssa_tree.specs.TreeOf.{step_of}
use Rattle.emit_known.specs.Found.{Adds, step_makes}
use Rattle.emit_known.proofs.Finding.{steps-next}
use Rattle.emit_known.proofs.Walking.{steps-found, guard-found, switch-found, case-found, arm-next}
use Rattle.emit_known.proofs.exceptions.+exceptions.Goals as goal

pub add_body-returns-in_ok-add_steps-in-Steps : goal.add_body-returns-in_ok-add_steps-in-Steps
add_body-returns-in_ok-add_steps-in-Steps t c =
    steps-found c.add_body.result c.args.found.now.items c.add_steps.new.found.items c.add_body.new.found.items c.args.body.now c.in-Steps.steps c.in-Steps.rest c.deref.result.now
    c.deref-in-Steps.result.now c.in-Steps.is c.deref.ensures.value c.deref-in-Steps.ensures c.in_ok-add_steps-in-Steps.ensures c.add_body.ensures

pub add_body-returns-in_ok-add_body-in-Guard : goal.add_body-returns-in_ok-add_body-in-Guard
add_body-returns-in_ok-add_body-in-Guard t c =
    guard-found c.add_body-in-Guard-2.result c.args.found.now.items c.add_body-in-Guard.new.found.items c.add_body-in-Guard-2.new.found.items c.args.body.now c.in-Guard.label c.in-Guard.body
    c.in-Guard.packet c.in-Guard.handler c.deref-in-Guard.result.now c.deref-in-Guard-2.result.now c.in-Guard.is c.deref-in-Guard.ensures c.deref-in-Guard-2.ensures
    c.in_ok-add_body-in-Guard.ensures c.add_body-in-Guard-2.ensures

pub add_body-returns-in_ok-add_arms-in-Switch : goal.add_body-returns-in_ok-add_arms-in-Switch
add_body-returns-in_ok-add_arms-in-Switch t c =
    switch-found c.add_body-in-Switch.result c.args.found.now.items c.add_arms.new.found.items c.add_body-in-Switch.new.found.items c.in-Switch.arms c.in-Switch.last c.deref-in-Switch.result.now
    c.deref-in-Switch-2.result.now c.deref-in-Switch.ensures.value c.deref-in-Switch-2.ensures c.args.body.now _ c.in-Switch.is c.in_ok-add_arms-in-Switch.ensures c.add_body-in-Switch.ensures

pub add_step-returns-in_ok-add_arms-in-Case : goal.add_step-returns-in_ok-add_arms-in-Case
add_step-returns-in_ok-add_arms-in-Case t c =
    case-found c.add_body-in-Case.result c.args.found.now.items c.add_arms.new.found.items c.add_body-in-Case.new.found.items c.in-Case.others c.in-Case.last c.deref-in-Case.result.now
    c.deref-in-Case-2.result.now c.deref-in-Case.ensures.value c.deref-in-Case-2.ensures c.args.step.now c.in-Case.cell c.in-Case.tag c.in-Case.is c.in_ok-add_arms-in-Case.ensures
    c.add_body-in-Case.ensures

pub add_arms-loop-i-preserved : goal.add_arms-loop-i-preserved
add_arms-loop-i-preserved t c =
    arm-next c.args.arms.now c.loop-i.i c.index-arms-i.result c.args.found.now.items c.loop-i.found.items c.add_body.new.found.items c.loop-i-test.true c.loop-i.invariant
    c.in_ok-add_body.ensures

pub add_steps-loop-i-preserved : goal.add_steps-loop-i-preserved
add_steps-loop-i-preserved t c =
    steps-next c.args.steps.now c.loop-i.i c.index-steps-i.result c.loop-i-test.true c.args.found.now.items c.loop-i.found.items c.add_step.new.found.items step_of c.loop-i.invariant
    (subst (λ (s : Step). Adds c.loop-i.found.items (step_makes (step_of s)) c.add_step.new.found.items) c.index-steps-i.is c.in_ok-add_step.ensures)
