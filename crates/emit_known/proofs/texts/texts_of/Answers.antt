use Rattle.std.proofs.Common.{map}
use Rattle.first_tables.specs.TablesOf.{items_of}
use Rattle.machine_code.specs.Image.{text_of}
use Rattle.emit_known.proofs.Writing.{text-next}
use Rattle.emit_known.proofs.texts.texts_of.Goals as goal

pub loop-i-preserved : goal.loop-i-preserved
loop-i-preserved c = λ i.
    text-next c.args.names.now c.args.found.now c.loop-i.i c.index-found-i.result c.loop-i-test.true c.index-found-i.is i (text_of (map items_of c.give.new.texts.items) i)
    (text_of (map items_of c.loop-i.texts.items) i) (c.in_ok-give.ensures i) (c.loop-i.invariant i)
