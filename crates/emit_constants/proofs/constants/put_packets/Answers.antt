use Rattle.machine_code.specs.Image.{packet_words}
use Rattle.std.proofs.Common.{◌++◌}
use Rattle.emit_constants.proofs.Texts.{packets-next}
use Rattle.emit_constants.proofs.constants.put_packets.Goals as goal

pub loop-left-preserved : goal.loop-left-preserved
loop-left-preserved c =
    packets-next c.loop-left.words.items c.push.new.self.items c.push-in-loop-left.new.self.items c.loop-left.name c.in_ok-name.name c.loop-left.left
    (c.args.words.now.items ++ packet_words c.args.first c.args.count) c.loop-left.invariant c.loop-left-test.true c.in_ok-push.ensures.items
    c.in_ok-push-2.ensures.items c.in_ok-name.ensures
