use Rattle.pat_elab.proofs.of_elab_steps.Changing.{if-ok}
use Rattle.exp_forms.proofs.Clausing.{fresh_is}
use Rattle.exp_forms.proofs.clauses.fresh_used.Goals as goal

pub returns : goal.returns
returns c = if-ok c.identifier.result (λ r k. fresh_is c.args.state.now c.identifier.new.state c.args.context.now c.args.place c.args.number _ r c.new.ensures.items k) c.identifier.ensures.is
