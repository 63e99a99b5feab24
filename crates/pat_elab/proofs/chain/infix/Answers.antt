use Rattle.elab_context.proofs.of_elab_steps.Changing.{if-ok}
use Rattle.pat_elab.proofs.Chains.{infix_is}
use Rattle.pat_elab.proofs.chain.infix.Goals as goal

pub returns : goal.returns
returns c =
    if-ok c.before-2.result (λ h k. infix_is c.args.state.now c.before-2.new.state c.args.context.now c.args.place c.args.vid c.args.pair h _ c.new.ensures.items k) c.before-2.ensures.is
