use Rattle.std.proofs.Common.{◌≡◌, ◌++◌, drop}
use Rattle.emit_rows.specs.of_machine_code.Code.{straight_code}
use Rattle.emit_code.proofs.moves.straight.Given as goal

abbrev pub invariant-loop-from : goal.invariant-loop-from
invariant-loop-from l = l.code.items ++ straight_code l.to (drop l.from-index l.words) ≡ l.initial.code.items ++ straight_code l.target l.words
