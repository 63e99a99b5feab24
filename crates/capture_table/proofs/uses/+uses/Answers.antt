use Rattle.capture_table.proofs.Growing.{uses-next, steps-next, functions-next}
use Rattle.capture_table.proofs.uses.+uses.Goals as goal
use Rattle.capture_table.specs.Told.{exp_told, step_told, arm_told, function_told}

pub push_of_all-loop-i-preserved : goal.push_of_all-loop-i-preserved
push_of_all-loop-i-preserved t c = uses-next exp_told c.args.attempts.now c.loop-i.i c.index-attempts-i.result c.index-attempts-i.result c.args.uses.now.items c.loop-i.uses.items c.push_uses.new.uses.items c.loop-i-test.true c.index-attempts-i.is c.loop-i.invariant c.in_ok-push_uses.ensures

pub push_of_arms-loop-i-preserved : goal.push_of_arms-loop-i-preserved
push_of_arms-loop-i-preserved t c = uses-next arm_told c.args.arms.now c.loop-i.i c.index-arms-i.result c.index-arms-i.result c.args.uses.now.items c.loop-i.uses.items c.push_of_arm.new.uses.items c.loop-i-test.true c.index-arms-i.is c.loop-i.invariant c.in_ok-push_of_arm.ensures

pub push_of_functions-loop-i-preserved : goal.push_of_functions-loop-i-preserved
push_of_functions-loop-i-preserved t c = functions-next function_told c.args.functions.now c.loop-i.i c.index-functions-i.result c.index-functions-i.result c.args.uses.now.items c.loop-i.uses.items c.push_of_function.new.uses.items c.loop-i-test.true c.index-functions-i.is c.loop-i.invariant c.in_ok-push_of_function.ensures

pub push_of_steps-loop-i-preserved : goal.push_of_steps-loop-i-preserved
push_of_steps-loop-i-preserved t c = steps-next step_told c.args.steps.now c.loop-i.i c.index-steps-i.result c.index-steps-i.result c.args.uses.now.items c.loop-i.uses.items c.push_of_step.new.uses.items c.loop-i-test.true c.index-steps-i.is c.loop-i.invariant c.in_ok-push_of_step.ensures
