use Rattle.std.proofs.Common.{arith}
use Rattle.mono_place.proofs.Placed.{flags-read, stop-read, flags-all}
use Rattle.mono_place.proofs.node.all_flagged.Goals as goal

pub returns-then-not-admits : goal.returns-then-not-admits
returns-then-not-admits c = stop-read c.args.types.now c.args.parts.now c.loop-i.i _ c.admits_eq-admits.result c.loop-i-test.true c.admits_eq-admits.ensures c.if-not-admits.true c.loop-i.invariant

pub loop-i-preserved : goal.loop-i-preserved
loop-i-preserved c = flags-read c.args.types.now c.args.parts.now c.loop-i.i _ c.admits_eq-admits.result c.loop-i-test.true c.admits_eq-admits.ensures c.if-not-admits.false c.loop-i.invariant

pub returns : goal.returns
returns c = flags-all c.args.types.now c.args.parts.now c.loop-i.i (omega arith) c.loop-i.invariant
