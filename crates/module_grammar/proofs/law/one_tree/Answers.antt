use Rattle.module_grammar.proofs.SourceComplete.{one-tree}
use Rattle.module_grammar.proofs.law.one_tree.Goals as goal

pub returns : goal.returns
returns c = one-tree
