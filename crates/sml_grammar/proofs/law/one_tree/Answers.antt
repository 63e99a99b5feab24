use Rattle.sml_grammar.proofs.LawComplete.{one-tree}
use Rattle.sml_grammar.proofs.law.one_tree.Goals as goal

pub returns : goal.returns
returns c = one-tree
