use Rattle.std.proofs.Common.{◌≡◌, ◌+◌, ◌*◌, ◌≤◌, length}
use Rattle.ir_code.specs.Reading.{HasConstants}
use Rattle.ir_code.proofs.read.read_constants.Given as goal

abbrev pub invariant-loop : goal.invariant-loop
invariant-loop l = record {
  read : HasConstants l.bytes l.constants.items l.rest;
  so_far : length l.constants.items ≡ l.counter;
  left : 4 * l.count ≤ 4 * l.counter + length l.rest;
}
