use Rattle.elab_exps.proofs.Heading.{group_stands, mark_is}
use Rattle.elab_exps.proofs.heads.enter_group.Goals as goal

pub returns-clause-mark : goal.returns-clause-mark
returns-clause-mark c = mark_is c.args.context.now.values c.mark-mark.result c.mark-mark.ensures.named c.mark-mark.ensures.fresh c.mark-mark.ensures.equals

pub returns-clause-stands : goal.returns-clause-stands
returns-clause-stands c S h k = group_stands S c.args.context.now c.enter_heads.new.context c.args.heads.now c.in_ok-enter_heads.ensures.entered (c.in_ok-enter_heads.ensures.context S) h k
