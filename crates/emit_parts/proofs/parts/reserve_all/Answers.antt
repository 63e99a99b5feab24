use Rattle.std.proofs.Common.{length, arith}
use Rattle.emit_parts.specs.Labels.{label_in, numbered}
use Rattle.emit_parts.proofs.Searches.{targets-next}
use Rattle.emit_parts.proofs.Blanks.{blank-next, blank-all}
use Rattle.emit_parts.proofs.parts.reserve_all.Goals as goal

pub loop-i-preserved : goal.loop-i-preserved
loop-i-preserved c = record {
  targets =
      targets-next (label_in c.args.at.now) c.loop-i.targets.items c.push.new.self.items _ c.args.tags.now c.loop-i.i c.loop-i.number c.in_ok-number.number
      c.number_at.result 0 (numbered (label_in c.args.at.now) c.len-first.result c.args.tags.now) c.loop-i.invariant.targets c.loop-i-test.true c.number_at.ensures
      c.in_ok-push.ensures.items c.in_ok-tag.ensures c.label-place.ensures c.in_ok-number.ensures;
  found = blank-next c.args.found.now.items c.loop-i.found.items c.reserve.new.found.items c.loop-i.i c.loop-i.invariant.found c.in_ok-reserve.ensures.found;
}

pub returns-clause-found : goal.returns-clause-found
returns-clause-found c =
    blank-all c.args.found.now.items c.loop-i.found.items c.reserve-2.new.found.items c.loop-i.i (length c.args.tags.now)
    (omega (arith, c.loop-i-test.false, c.loop-i.auto.i-end)) c.loop-i.invariant.found c.in_ok-reserve-2.ensures.found
