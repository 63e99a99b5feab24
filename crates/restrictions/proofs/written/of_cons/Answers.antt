use Rattle.restrictions.specs.Written.{written_con}
use Rattle.restrictions.proofs.Abbreviated.{noted-first, noted-last, noted-next}
use Rattle.restrictions.proofs.written.of_cons.Goals as goal

pub loop-i-init : goal.loop-i-init
loop-i-init c bs r = noted-first (written_con bs) c.args.cons.now c.args.marks.now.items

pub loop-i-preserved : goal.loop-i-preserved
loop-i-preserved c bs r =
    noted-next (written_con bs) c.args.cons.now c.loop-i.i c.index-cons-i.result c.args.marks.now.items c.loop-i.marks.items _ c.loop-i-test.true c.index-cons-i.is (c.loop-i.invariant bs r)
    (c.in_ok-of_con.ensures bs r)

pub returns : goal.returns
returns c bs r = noted-last (written_con bs) c.args.cons.now c.loop-i.i c.args.marks.now.items c.loop-i.marks.items c.loop-i-test.false (c.loop-i.invariant bs r)
