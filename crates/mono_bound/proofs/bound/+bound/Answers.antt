use Rattle.std.proofs.Common.{◌-◌, arith}
use Rattle.mono_bound.specs.Bound.{exp_bound, step_bound, arm_bound, function_bound}
use Rattle.mono_bound.proofs.Next.{joined-next, fronts-next, backs-next}
use Rattle.mono_bound.proofs.bound.+bound.Goals as goal

pub push_all-loop-i-preserved : goal.push_all-loop-i-preserved
push_all-loop-i-preserved t c = joined-next c.args.attempts.now c.loop-i.i c.index-attempts-i.result c.index-attempts-i.result c.args.found.now.items c.loop-i.found.items c.push_bound.new.found.items (exp_bound c.args.types.now) c.loop-i-test.true c.index-attempts-i.is c.loop-i.invariant c.in_ok-push_bound.ensures

pub push_arms-loop-i-preserved : goal.push_arms-loop-i-preserved
push_arms-loop-i-preserved t c = joined-next c.args.arms.now c.loop-i.i c.index-arms-i.result c.index-arms-i.result c.args.found.now.items c.loop-i.found.items c.push_arm.new.found.items (arm_bound c.args.types.now) c.loop-i-test.true c.index-arms-i.is c.loop-i.invariant c.in_ok-push_arm.ensures

pub push_functions-loop-i-preserved : goal.push_functions-loop-i-preserved
push_functions-loop-i-preserved t c = joined-next c.args.functions.now c.loop-i.i c.index-functions-i.result c.index-functions-i.result c.args.found.now.items c.loop-i.found.items c.push_function.new.found.items (function_bound c.args.types.now) c.loop-i-test.true c.index-functions-i.is c.loop-i.invariant c.in_ok-push_function.ensures

pub push_before-loop-i-preserved : goal.push_before-loop-i-preserved
push_before-loop-i-preserved t c = fronts-next c.args.steps.now c.loop-i.i c.index-steps-i.result c.index-steps-i.result c.args.found.now.items c.loop-i.found.items c.push_step.new.found.items (step_bound c.args.types.now) c.loop-i-test.true c.index-steps-i.is c.loop-i.invariant c.in_ok-push_step.ensures

pub push_after-loop-left-preserved : goal.push_after-loop-left-preserved
push_after-loop-left-preserved t c = record {
  within = let w = c.loop-left.invariant.within in omega (arith, w);
  found = let w = c.loop-left.invariant.within in let q = c.loop-left-test.true in
      backs-next c.args.steps.now (c.loop-left.left - 1) c.index-steps-left.result c.index-steps-left.result c.args.found.now.items c.loop-left.found.items c.push_others.new.found.items (step_bound c.args.types.now) c.loop-left.left
      (omega (arith, q)) (omega (arith, w, q)) c.index-steps-left.is c.loop-left.invariant.found c.in_ok-push_others.ensures;
}
