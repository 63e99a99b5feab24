use Rattle.std.proofs.Common.{add-one, subst}
use Rattle.machine_emit.proofs.Reading.{IsText, HoldsText, one-more, at-end, all-bytes}
use Rattle.machine_emit.proofs.bytes.texts_are_bytes.Goals as goal

pub loop-i-preserved : goal.loop-i-preserved
loop-i-preserved c =
    rw add-one (one-more HoldsText c.args.texts.now c.loop-i.i c.index-texts-i.result c.loop-i-test.true c.loop-i.invariant
    (subst HoldsText c.index-texts-i.is (subst IsText c.deref.ensures.value c.is_text.ensures)))

pub returns : goal.returns
returns c = all-bytes c.args.texts.now (at-end HoldsText c.args.texts.now c.loop-i.i c.loop-i-test.false c.loop-i.invariant)
