use Rattle.std.proofs.Common.{subst, ◌<◌, ◌≤◌}
use Rattle.scoped_map.proofs.LogLemmas.{left-starts, left-more, shorter, left-ends}
use Rattle.scoped_map.proofs.scoped.Scoped.truncate.Goals as goal

pub loop-self-init : goal.loop-self-init
loop-self-init g c = left-starts c.args.self.now c.args.len

pub loop-self-preserved : goal.loop-self-preserved
loop-self-preserved g c = left-more c.args.self.now c.loop-self.self c.leave.new.self c.args.len c.loop-self.invariant (subst (λ n. c.args.len < n) c.len.ensures c.loop-self-test.true) c.leave.ensures

pub loop-self-smaller : goal.loop-self-smaller
loop-self-smaller g c = shorter c.loop-self.self c.leave.new.self c.args.len (subst (λ n. c.args.len < n) c.len.ensures c.loop-self-test.true) c.leave.ensures

pub returns : goal.returns
returns g c = left-ends c.args.self.now c.loop-self.self c.args.len c.loop-self.invariant (subst (λ n. n ≤ c.args.len) c.len.ensures c.loop-self-test.false)
