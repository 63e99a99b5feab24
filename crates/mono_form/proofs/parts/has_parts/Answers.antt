use Rattle.std.proofs.Common.{length, arith}
use Rattle.mono_form.specs.Parts.{RowBelow}
use Rattle.mono_form.proofs.Rows.{next, stops, ends}
use Rattle.mono_form.proofs.parts.has_parts.Goals as goal

pub returns-then-not-is : goal.returns-then-not-is
returns-then-not-is c = stops (RowBelow (length c.args.types.now)) c.args.types.now c.loop-n.n c.is_row-is.result (omega arith) c.is_row-is.ensures c.if-not-is.true

pub loop-n-preserved : goal.loop-n-preserved
loop-n-preserved c = next (RowBelow (length c.args.types.now)) c.args.types.now c.loop-n.n c.is_row-is.result (omega arith) c.is_row-is.ensures c.if-not-is.false c.loop-n.invariant

pub returns : goal.returns
returns c = ends (RowBelow (length c.args.types.now)) c.args.types.now c.loop-n.n (omega arith) c.loop-n.invariant
