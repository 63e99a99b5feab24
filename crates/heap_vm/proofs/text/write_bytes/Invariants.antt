use Rattle.std.proofs.Common.{◌≡◌, take}
use Rattle.ir_code.specs.Words.{write_at}
use Rattle.heap_vm.proofs.text.write_bytes.Given as goal

abbrev pub invariant-loop-i : goal.invariant-loop-i
invariant-loop-i l = l.memory ≡ write_at l.fn.memory l.at (take l.i l.bytes)
