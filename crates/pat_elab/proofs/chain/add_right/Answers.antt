use Rattle.std.proofs.Common.{refl}
use Rattle.pat_elab.proofs.Chains.{right_more}
use Rattle.pat_elab.proofs.chain.add_right.Goals as goal

pub returns-clause-is : goal.returns-clause-is
returns-clause-is c S M N T C a os o before mid after h j k =
    right_more S M N T C a os o before mid after c.args.one c.args.joined c.args.hole c.args.chain.now _ refl refl refl refl c.in_ok-push.ensures.items h j k
