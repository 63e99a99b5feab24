use Rattle.std.proofs.Common.{◌≡◌, ◌++◌}
use Rattle.emit_rows.specs.of_machine_code.Code.{down_code}
use Rattle.emit_code.proofs.moves.down_all.Given as goal

abbrev pub invariant-loop-left : goal.invariant-loop-left
invariant-loop-left l = l.code.items ++ down_code l.to l.from l.left ≡ l.initial.code.items ++ down_code l.target l.depth l.count

abbrev pub decreases-loop-left : goal.decreases-loop-left
decreases-loop-left l = l.left
