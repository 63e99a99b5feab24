use Rattle.std.proofs.Common.{arith}
use Rattle.ir_mono.specs.Types.{admits}
use Rattle.mono_table.proofs.Lists.{next-read, stops-read, left-none}
use Rattle.mono_table.proofs.table.all_admit.Goals as goal

pub returns-then-not-admits : goal.returns-then-not-admits
returns-then-not-admits c = stops-read (admits c.args.types.now) c.args.parts.now c.loop-i.i _ c.admits_eq-admits.result c.loop-i-test.true c.admits_eq-admits.ensures c.if-not-admits.true c.loop-i.invariant

pub loop-i-preserved : goal.loop-i-preserved
loop-i-preserved c = next-read (admits c.args.types.now) c.args.parts.now c.loop-i.i _ c.admits_eq-admits.result c.loop-i-test.true c.admits_eq-admits.ensures c.if-not-admits.false c.loop-i.invariant

pub returns : goal.returns
returns c = left-none (admits c.args.types.now) c.args.parts.now c.loop-i.i (omega arith) c.loop-i.invariant
