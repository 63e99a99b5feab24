use Rattle.std.proofs.Common.{take}
use Rattle.use_elab.proofs.Making.{Writes}
use Rattle.use_elab.proofs.writing.write_all.Given as goal

abbrev pub invariant-loop-i : goal.invariant-loop-i
invariant-loop-i l = Writes l.fn.state l.state l.naming (take l.i l.types) l.written.items
