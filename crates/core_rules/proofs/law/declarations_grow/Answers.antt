use Rattle.core_rules.proofs.Growing.{declarations-grow}
use Rattle.core_rules.proofs.law.declarations_grow.Goals as goal

pub returns : goal.returns
returns c = declarations-grow
