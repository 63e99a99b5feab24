use Rattle.use_elab.proofs.Making.{freshly_none, freshly_more}
use Rattle.use_elab.proofs.fresh.fresh_types.Goals as goal

pub loop-mark-init : goal.loop-mark-init
loop-mark-init c = freshly_none c.args.state.now c.args.limit _ c.new-types.ensures.items

pub loop-mark-preserved : goal.loop-mark-preserved
loop-mark-preserved c =
    freshly_more c.args.state.now c.loop-mark.state c.marked_type.new.state c.args.limit c.args.marks.now c.loop-mark.mark-index _ c.loop-mark.types.items c.push.new.self.items
    c.in_ok-ty.ty c.loop-mark-test.true c.loop-mark.invariant c.in_ok-ty.ensures.grows c.in_ok-ty.ensures.is c.in_ok-ty.ensures.fresh c.in_ok-ty.ensures.next c.in_ok-push.ensures.items
