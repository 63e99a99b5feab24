use Rattle.std.proofs.Common.{refl}
use Rattle.closure_parts.proofs.Putting.{all-before}
use Rattle.closure_parts.proofs.Closures.{cell-next, cell-all}
use Rattle.closure_parts.proofs.making.cell_pieces.Goals as goal

pub loop-i-preserved : goal.loop-i-preserved
loop-i-preserved c =
    cell-next c.args.pieces.now c.loop-i.i _ _ _ c.loop-i.made.items c.push.new.self.items c.in_ok-part.part refl c.loop-i-test.true refl c.in_ok-push.ensures.items c.in_ok-part.ensures
    c.loop-i.invariant

pub returns : goal.returns
returns c = cell-all c.args.pieces.now c.loop-i.i c.loop-i.made.items (all-before c.args.pieces.now c.loop-i.i c.loop-i-test.false) c.loop-i.invariant
