use Rattle.std.proofs.Common.{All, take}
use Rattle.machine_emit.proofs.Reading.{HoldsText}
use Rattle.machine_emit.proofs.bytes.texts_are_bytes.Given as goal

abbrev pub invariant-loop-i : goal.invariant-loop-i
invariant-loop-i l = All HoldsText (take l.i l.texts)
