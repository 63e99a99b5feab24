use Rattle.std.proofs.Common.{refl}
use Rattle.pat_elab.proofs.Chains.{right_starts}
use Rattle.pat_elab.proofs.chain.start_right.Goals as goal

pub returns-clause-is : goal.returns-clause-is
returns-clause-is c S a before after h =
    right_starts S c.args.state.now c.fresh_type.new.state c.args.context.now a before after c.args.first _ c.in_ok-whole.ensures.grows c.in_ok-whole.ensures.is c.in_ok-whole.ensures.next refl refl refl c.new.ensures.items h
