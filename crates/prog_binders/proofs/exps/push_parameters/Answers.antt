use Rattle.prog_binders.specs.Adding.{parameter_times}
use Rattle.prog_binders.proofs.Counting.{more, all-of, pushed}
use Rattle.prog_binders.proofs.exps.push_parameters.Goals as goal

pub loop-i-preserved : goal.loop-i-preserved
loop-i-preserved c = more (λ R h. parameter_times h) c.args.parameters.now c.loop-i.i _ _ _ _ c.loop-i-test.true c.loop-i.invariant (pushed _ _ _ c.in_ok-push.ensures.items)

pub returns : goal.returns
returns c = all-of (λ R h. parameter_times h) c.args.parameters.now c.loop-i.i _ _ c.loop-i-test.false c.loop-i.invariant
