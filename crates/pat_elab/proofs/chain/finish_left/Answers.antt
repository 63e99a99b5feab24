use Rattle.std.proofs.Common.{refl}
use Rattle.pat_elab.proofs.Chains.{left_is}
use Rattle.pat_elab.proofs.chain.finish_left.Goals as goal

pub returns : goal.returns
returns c S T C place a os before after h = left_is S T C place a os before after c.args.chain _ c.in_ok-first.first c.in_ok-first.ensures refl refl h
