use Rattle.std.proofs.Common.{◌-◌, arith}
use Rattle.capture_table.proofs.Placing.{placed-next}
use Rattle.capture_table.proofs.table.find_places.Goals as goal

pub loop-left-preserved : goal.loop-left-preserved
loop-left-preserved c =
    let w = c.loop-left.invariant.within in
    let q = c.loop-left-test.true in
    record {
      within = omega (arith, w);
      placed = placed-next c.args.found.now c.loop-left.left (c.loop-left.left - 1) c.number_at.result c.loop-left.places.entries c.insert.new.self.entries (omega (arith, q)) (omega (arith, w, q))
          c.number_at.ensures c.in_ok-insert.ensures.updates.0 c.loop-left.invariant.placed;
    }
