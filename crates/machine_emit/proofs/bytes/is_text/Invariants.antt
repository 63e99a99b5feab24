use Rattle.std.proofs.Common.{take}
use Rattle.machine_emit.proofs.Reading.{IsText}
use Rattle.machine_emit.proofs.bytes.is_text.Given as goal

abbrev pub invariant-loop-i : goal.invariant-loop-i
invariant-loop-i l = IsText (take l.i l.text)
