use Rattle.sml_lexer.proofs.LongestLemmas.{items_are_longest}
use Rattle.sml_lexer.proofs.lex.items_are_longest.Goals as goal

pub returns : goal.returns
returns c = items_are_longest
