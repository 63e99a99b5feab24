use Rattle.elab_exps.proofs.Heading.{head-is}
use Rattle.elab_exps.proofs.heads.head_at.Goals as goal

pub returns : goal.returns
returns c = head-is c.args.heads.now c.args.index c.index-heads-heads.result c.requires c.index-heads-heads.is
