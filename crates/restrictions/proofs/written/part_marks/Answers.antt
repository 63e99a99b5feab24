use Rattle.std.proofs.Common.{refl}
use Rattle.restrictions.specs.Written.{mark_places, mark_tyvars}
use Rattle.restrictions.proofs.Standing.{list-ends, list-next}
use Rattle.restrictions.proofs.written.part_marks.Goals as goal

pub loop-i-init : goal.loop-i-init
loop-i-init c = (refl, refl)

pub loop-i-preserved : goal.loop-i-preserved
loop-i-preserved c = (
  list-next mark_places c.args.marks.now c.loop-i.i c.index-marks-i.result c.loop-i.found.items _ _ c.loop-i-test.true c.index-marks-i.is c.loop-i.invariant.0 c.in_ok-part_mark.ensures.found,
  list-next mark_tyvars c.args.marks.now c.loop-i.i c.index-marks-i.result c.loop-i.occurring.items _ _ c.loop-i-test.true c.index-marks-i.is c.loop-i.invariant.1
      c.in_ok-part_mark.ensures.occurring,
)

pub returns-clause-found : goal.returns-clause-found
returns-clause-found c = list-ends mark_places c.args.marks.now c.loop-i.i c.loop-i.found.items _ c.loop-i-test.false c.loop-i.invariant.0

pub returns-clause-occurring : goal.returns-clause-occurring
returns-clause-occurring c = list-ends mark_tyvars c.args.marks.now c.loop-i.i c.loop-i.occurring.items _ c.loop-i-test.false c.loop-i.invariant.1
