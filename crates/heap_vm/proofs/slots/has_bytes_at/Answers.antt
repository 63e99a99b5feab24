use Rattle.std.proofs.Common.{◌≡◌, true, arith, rules}
use Rattle.ir_code.specs.Machine.{string_at, all_bytes}
use Rattle.heap_vm.proofs.Bytes.{all_from_test}
use Rattle.heap_vm.proofs.slots.has_bytes_at.Goals as goal

pub returns-clause-string : goal.returns-clause-string
returns-clause-string c h =
    let test : all_bytes (string_at c.args.memory.now c.args.x) ≡ true = search rules in
    (grind arith, grind arith, all_from_test _ test)
