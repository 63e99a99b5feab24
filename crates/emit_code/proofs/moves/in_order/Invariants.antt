use Rattle.std.proofs.Common.{◌≡◌, ◌&&◌, drop}
use Rattle.emit_rows.specs.of_machine_code.Code.{in_order}
use Rattle.emit_code.proofs.moves.in_order.Given as goal

abbrev pub invariant-loop-from : goal.invariant-loop-from
invariant-loop-from l = (l.all && in_order l.target l.to (drop l.from-index l.words)) ≡ in_order l.target l.target l.words
