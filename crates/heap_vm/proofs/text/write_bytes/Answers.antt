use Rattle.std.proofs.Common.{◌≡◌, arith, rules, get_or}
use Rattle.heap_vm.proofs.Writes.{write_more}
use Rattle.heap_vm.proofs.text.write_bytes.Goals as goal

pub loop-i-preserved : goal.loop-i-preserved
loop-i-preserved c =
    let v : c.from.result ≡ get_or c.args.bytes.now c.loop-i.i 0 = search rules in
    rw c.loop-i.invariant (write_more c.args.memory.now c.args.at c.args.bytes.now c.loop-i.i c.from.result (omega arith) (omega arith) v)
