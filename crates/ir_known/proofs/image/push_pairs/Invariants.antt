use Rattle.std.proofs.Common.{◌≡◌, ◌++◌, zip, take}
use Rattle.ir_known.proofs.image.push_pairs.Given as goal

abbrev pub invariant-loop-i : goal.invariant-loop-i
invariant-loop-i l = l.pending.items ≡ l.fn.pending.items ++ zip (take l.i l.parts) (take l.i l.others)
