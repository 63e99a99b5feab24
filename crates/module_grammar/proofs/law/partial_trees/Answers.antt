use Rattle.module_grammar.proofs.Paths.{tops-opens}
use Rattle.module_grammar.proofs.law.partial_trees.Goals as goal

pub returns : goal.returns
returns c = λ f i ts d is pos le. tops-opens is d pos le
