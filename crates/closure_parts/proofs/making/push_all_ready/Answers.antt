use Rattle.std.proofs.Common.{refl}
use Rattle.closure_parts.proofs.Putting.{all-behind}
use Rattle.closure_parts.proofs.Closures.{ready-next, ready-all}
use Rattle.closure_parts.proofs.making.push_all_ready.Goals as goal

pub loop-i-preserved : goal.loop-i-preserved
loop-i-preserved c = λ n t.
    ready-next n c.args.scope.now c.args.pieces.now c.loop-i.i _ _ _ c.args.steps.now.items c.loop-i.steps.items c.push_piece_ready.new.steps.items refl c.loop-i-test.true refl
    (c.in_ok-push_piece_ready.ensures n t) (c.loop-i.invariant n t)

pub returns : goal.returns
returns c = λ n t.
    ready-all n c.args.scope.now c.args.pieces.now c.loop-i.i c.args.steps.now.items c.loop-i.steps.items (all-behind c.args.pieces.now c.loop-i.i c.loop-i-test.false) (c.loop-i.invariant n t)
