use Rattle.std.proofs.Common.{refl}
use Rattle.scoped_tyvars.proofs.New.{note-ends, note-next}
use Rattle.scoped_tyvars.proofs.scoped.note_all.Goals as goal

pub loop-i-init : goal.loop-i-init
loop-i-init c = refl

pub loop-i-preserved : goal.loop-i-preserved
loop-i-preserved c =
    note-next c.args.tyvars.now c.loop-i.i c.index-tyvars-i.result c.loop-i.noted _ _ c.loop-i-test.true c.index-tyvars-i.is c.loop-i.invariant c.in_ok-note.ensures

pub returns : goal.returns
returns c = note-ends c.args.tyvars.now c.loop-i.i c.loop-i.noted _ c.loop-i-test.false c.loop-i.invariant
