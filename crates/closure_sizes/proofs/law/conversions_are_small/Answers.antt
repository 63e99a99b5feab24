use Rattle.closure_sizes.proofs.Sizes.{conversion-is-small}
use Rattle.closure_sizes.proofs.Uses.{captures-are-uses}
use Rattle.closure_sizes.proofs.law.conversions_are_small.Goals as goal

pub returns-clause-nodes : goal.returns-clause-nodes
returns-clause-nodes c = conversion-is-small

pub returns-clause-words : goal.returns-clause-words
returns-clause-words c = captures-are-uses
