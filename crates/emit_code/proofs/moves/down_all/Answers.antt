use Rattle.emit_code.proofs.Downwards.{down-next}
use Rattle.emit_code.proofs.moves.down_all.Goals as goal

pub loop-left-preserved : goal.loop-left-preserved
loop-left-preserved c =
    down-next c.loop-left.code.items c.put.new.code.items _ c.mov.result c.loop-left.to c.loop-left.from c.loop-left.left c.in_ok-to.to c.in_ok-from.from
    c.in_ok-slot_at.field-0 c.in_ok-slot_at-2.field-0 c.loop-left.invariant c.loop-left-test.true c.in_ok-put.ensures c.mov.ensures c.in_ok-slot_at.ensures
    c.in_ok-slot_at-2.ensures c.in_ok-to.ensures c.in_ok-from.ensures
