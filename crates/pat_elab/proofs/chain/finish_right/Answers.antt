use Rattle.std.proofs.Common.{refl}
use Rattle.pat_elab.proofs.Chains.{right_is}
use Rattle.pat_elab.proofs.chain.finish_right.Goals as goal

pub returns : goal.returns
returns c S place a os before after h =
    right_is S c.args.state.now c.unify.new.state c.args.context.now place a os before after c.args.chain _ c.in_ok-first.first c.in_ok-unify.ensures.grows c.in_ok-unify.ensures.equal c.in_ok-unify.ensures.next
    c.in_ok-first.ensures refl refl h
