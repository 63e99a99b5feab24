use Rattle.std.proofs.Common.{◌≡◌, ◌++◌}
use Rattle.machine_code.specs.Image.{packet_words}
use Rattle.emit_constants.proofs.constants.put_packets.Given as goal

abbrev pub invariant-loop-left : goal.invariant-loop-left
invariant-loop-left l = l.words.items ++ packet_words l.name l.left ≡ l.fn.words.items ++ packet_words l.fn.first l.fn.count

abbrev pub decreases-loop-left : goal.decreases-loop-left
decreases-loop-left l = l.left
