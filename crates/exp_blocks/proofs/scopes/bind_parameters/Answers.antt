use Rattle.exp_blocks.proofs.Binding.{bound-none, bound-next, bound-all}
use Rattle.exp_blocks.proofs.scopes.bind_parameters.Goals as goal

pub loop-i-init : goal.loop-i-init
loop-i-init c = bound-none c.args.work.now c.args.named.now _ c.new-made.ensures.items

pub loop-i-preserved : goal.loop-i-preserved
loop-i-preserved c = bound-next c.args.work.now c.loop-i.work _ c.args.named.now c.loop-i.i _ c.loop-i.made.items _ c.in_ok-parameter.parameter c.loop-i-test.true c.loop-i.invariant c.in_ok-parameter.ensures c.in_ok-push.ensures.items

pub returns : goal.returns
returns c = bound-all c.args.work.now c.loop-i.work c.args.named.now c.loop-i.i c.loop-i.made.items c.loop-i-test.false c.loop-i.invariant
