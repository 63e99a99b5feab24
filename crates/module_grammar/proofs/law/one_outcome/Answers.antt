use Rattle.module_grammar.proofs.SourceOver.{one-outcome}
use Rattle.module_grammar.proofs.law.one_outcome.Goals as goal

pub returns : goal.returns
returns c = one-outcome
