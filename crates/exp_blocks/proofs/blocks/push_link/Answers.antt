use Rattle.exp_blocks.proofs.Holding.{link-pushed}
use Rattle.exp_blocks.proofs.blocks.push_link.Goals as goal

pub returns-clause-puts : goal.returns-clause-puts
returns-clause-puts c =
    link-pushed _ _ _ c.args.goes_on c.args.value c.in_ok-ty.ty c.truth_number-goes.result c.in_ok-others.others c.in_ok-push.ensures.items c.truth_number-goes.ensures c.in_ok-ty.ensures.is c.in_ok-others.ensures
