use Rattle.std.proofs.Common.{arith}
use Rattle.match_names.proofs.Naming.{step-back, shorter}
use Rattle.match_names.proofs.names.Names.restore.Goals as goal

pub loop-self-preserved : goal.loop-self-preserved
loop-self-preserved c =
    let e = shorter c.loop-self.self c.unbind.new.self c.in_ok-unbind.ensures in
    record {
      is = step-back c.args.self.now c.loop-self.self c.unbind.new.self c.loop-self.invariant.is c.loop-self.invariant.high (omega (arith, c.loop-self-test.true, c.len.ensures)) c.in_ok-unbind.ensures;
      low = omega (arith, c.loop-self-test.true, c.len.ensures, c.loop-self.invariant.low);
      high = omega (arith, c.loop-self.invariant.high);
    }
