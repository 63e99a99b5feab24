use Rattle.std.proofs.Common.{◌≡◌, ◌+◌, ◌*◌, length}
use Rattle.ir_code.specs.Reading.{HasCode}
use Rattle.ir_code.proofs.read.read_code.Given as goal

abbrev pub invariant-loop-index : goal.invariant-loop-index
invariant-loop-index l = record {
  read : HasCode l.bytes l.code.items l.rest;
  so_far : length l.code.items ≡ l.index;
  left : 16 * l.index + length l.rest ≡ 16 * l.count;
}
