use Rattle.std.proofs.Common.{arith}
use Rattle.ty_solve.proofs.Changing.{written-back, last-kept}
use Rattle.ty_solve.proofs.trail.write.Goals as goal

pub returns-clause-undone : goal.returns-clause-undone
returns-clause-undone c = written-back _ _ _ _ c.args.v c.args.slot _ c.put-before.ensures.before c.put-before.ensures.after (last-kept _ _ _ _ _ c.in_ok-push.ensures.items (omega (arith, c.len-last.ensures, c.push.new.self.ok.0)))
