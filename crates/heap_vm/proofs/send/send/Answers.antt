use Rattle.std.proofs.Common.{arith, ◌≡◌, take, drop}
use Rattle.std.proofs.lemmas.Grind.{common_steps}
use Rattle.heap_vm.proofs.Sinks.{rose_after}
use Rattle.heap_vm.proofs.Sent.{more_sent, part_sent}
use Rattle.heap_vm.proofs.send.send.Goals as goal

pub returns-in-Failed : goal.returns-in-Failed
returns-in-Failed g c =
    let piece : take c.min-n.result c.fill.new.buf ≡ take c.min-n.result (drop c.loop-i.i c.args.words.now) = grind (arith, common_steps) in
    let put = c.in-Failed.ensures in
    let part = part_sent c.args.words.now _ _ _ c.loop-i.i c.min-n.result put.taken _ piece c.loop-i.invariant.1 put.wrote in
    record { taken = part.0; wrote = part.1; rose = rose_after _ _ _ c.loop-i.invariant.2 put.rose; kept = omega (arith, put.kept) }

pub loop-i-preserved : goal.loop-i-preserved
loop-i-preserved g c =
    let piece : take c.min-n.result c.fill.new.buf ≡ take c.min-n.result (drop c.loop-i.i c.args.words.now) = grind (arith, common_steps) in
    (omega arith, more_sent c.args.words.now _ _ _ c.loop-i.i c.min-n.result _ piece c.loop-i.invariant.1 c.in-Done.ensures.wrote, omega (arith, c.in-Done.ensures.kept))
