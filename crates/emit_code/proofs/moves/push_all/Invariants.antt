use Rattle.std.proofs.Common.{◌≡◌, ◌++◌, drop}
use Rattle.emit_rows.specs.of_machine_code.Code.{push_code}
use Rattle.emit_code.proofs.moves.push_all.Given as goal

abbrev pub invariant-loop-from : goal.invariant-loop-from
invariant-loop-from l = l.code.items ++ push_code l.to (drop l.from-index l.words) ≡ l.initial.code.items ++ push_code l.depth l.words
