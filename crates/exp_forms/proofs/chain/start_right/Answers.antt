use Rattle.std.proofs.Common.{refl}
use Rattle.exp_forms.proofs.Chains.{right_starts}
use Rattle.exp_forms.proofs.chain.start_right.Goals as goal

pub returns : goal.returns
returns c S a h =
    right_starts S c.args.state.now c.fresh_type.new.state c.args.context.now c.args.place a c.args.first _ c.in_ok-whole.ensures.grows c.in_ok-whole.ensures.is refl refl refl refl
    c.new.ensures.items h
