use Rattle.pat_elab.proofs.of_elab_steps.Changing.{if-ok}
use Rattle.exp_forms.proofs.JoiningChains.{operator_is}
use Rattle.exp_forms.proofs.chain.operator_used.Goals as goal

pub returns : goal.returns
returns c =
    if-ok c.identifier.result (λ r k. operator_is c.args.state.now c.identifier.new.state c.args.context.now c.args.operator.place c.args.operator.vid _ r c.new.ensures.items k) c.identifier.ensures.is
