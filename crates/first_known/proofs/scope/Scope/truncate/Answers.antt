use Rattle.std.proofs.Common.{subst, ◌<◌, ◌≤◌}
use Rattle.first_known.proofs.Logs.{left-starts, left-more, shorter, left-ends}
use Rattle.first_known.proofs.scope.Scope.truncate.Goals as goal

pub loop-self-init : goal.loop-self-init
loop-self-init c = left-starts c.args.self.now c.args.len

pub loop-self-preserved : goal.loop-self-preserved
loop-self-preserved c = left-more c.args.self.now c.loop-self.self c.leave.new.self c.args.len c.loop-self.invariant (subst (λ n. c.args.len < n) c.len.ensures c.loop-self-test.true) c.leave.ensures

pub loop-self-smaller : goal.loop-self-smaller
loop-self-smaller c = shorter c.loop-self.self c.leave.new.self c.args.len (subst (λ n. c.args.len < n) c.len.ensures c.loop-self-test.true) c.leave.ensures

pub returns : goal.returns
returns c = left-ends c.args.self.now c.loop-self.self c.args.len c.loop-self.invariant (subst (λ n. n ≤ c.args.len) c.len.ensures c.loop-self-test.false)
