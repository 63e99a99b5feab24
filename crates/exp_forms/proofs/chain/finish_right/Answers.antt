use Rattle.std.proofs.Common.{refl}
use Rattle.exp_forms.proofs.Chains.{right_is}
use Rattle.exp_forms.proofs.chain.finish_right.Goals as goal

pub returns : goal.returns
returns c S C p a os h =
    right_is S c.args.state.now c.unify.new.state C p a os c.args.chain _ c.in_ok-first.first c.in_ok-unify.ensures.grows c.in_ok-unify.ensures.equal c.in_ok-first.ensures refl refl h
