use Rattle.plain_tree.specs.Sums.{binders_of, step_binders, arm_binders, function_binders}
use Rattle.plain_tree.proofs.Next.{grown}
use Rattle.plain_tree.proofs.binders.+binders.Goals as goal

pub push_of_all-loop-i-preserved : goal.push_of_all-loop-i-preserved
push_of_all-loop-i-preserved t c = grown binders_of c.args.attempts.now c.loop-i.i c.index-attempts-i.result c.args.found.now.items c.loop-i.found.items c.push_binders.new.found.items c.loop-i-test.true c.index-attempts-i.is c.loop-i.invariant c.in_ok-push_binders.ensures

pub push_of_arms-loop-i-preserved : goal.push_of_arms-loop-i-preserved
push_of_arms-loop-i-preserved t c = grown arm_binders c.args.arms.now c.loop-i.i c.index-arms-i.result c.args.found.now.items c.loop-i.found.items c.push_of_arm.new.found.items c.loop-i-test.true c.index-arms-i.is c.loop-i.invariant c.in_ok-push_of_arm.ensures

pub push_of_functions-loop-i-preserved : goal.push_of_functions-loop-i-preserved
push_of_functions-loop-i-preserved t c = grown function_binders c.args.functions.now c.loop-i.i c.index-functions-i.result c.args.found.now.items c.loop-i.found.items c.push_of_function.new.found.items c.loop-i-test.true c.index-functions-i.is c.loop-i.invariant c.in_ok-push_of_function.ensures

pub push_of_steps-loop-i-preserved : goal.push_of_steps-loop-i-preserved
push_of_steps-loop-i-preserved t c = grown step_binders c.args.steps.now c.loop-i.i c.index-steps-i.result c.args.found.now.items c.loop-i.found.items c.push_of_step.new.found.items c.loop-i-test.true c.index-steps-i.is c.loop-i.invariant c.in_ok-push_of_step.ensures
