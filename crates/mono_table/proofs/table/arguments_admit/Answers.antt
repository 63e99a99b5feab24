use Rattle.std.proofs.Common.{arith}
use Rattle.mono_table.proofs.Lists.{flags-next, flags-stop, flags-none}
use Rattle.mono_table.proofs.table.arguments_admit.Goals as goal

pub returns-then-not-admits : goal.returns-then-not-admits
returns-then-not-admits c = flags-stop c.args.types.now c.args.n c.args.constructors.now c.loop-i.i c.admits_at-admits.result (omega arith) c.admits_at-admits.ensures c.if-not-admits.true c.loop-i.invariant

pub loop-i-preserved : goal.loop-i-preserved
loop-i-preserved c = flags-next c.args.types.now c.args.n c.args.constructors.now c.loop-i.i c.admits_at-admits.result (omega arith) c.admits_at-admits.ensures c.if-not-admits.false c.loop-i.invariant

pub returns : goal.returns
returns c = flags-none c.args.types.now c.args.n c.args.constructors.now c.loop-i.i (omega arith) c.loop-i.invariant
