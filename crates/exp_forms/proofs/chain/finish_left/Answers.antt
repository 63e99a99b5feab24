use Rattle.std.proofs.Common.{refl}
use Rattle.exp_forms.proofs.Chains.{left_is}
use Rattle.exp_forms.proofs.chain.finish_left.Goals as goal

pub returns : goal.returns
returns c S T C place a os h = left_is S T C place a os c.args.chain _ c.in_ok-first.first c.in_ok-first.ensures refl refl h
