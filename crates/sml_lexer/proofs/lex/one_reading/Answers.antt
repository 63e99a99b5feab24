use Rattle.sml_lexer.proofs.LexLemmas.{one_reading}
use Rattle.sml_lexer.proofs.lex.one_reading.Goals as goal

pub returns : goal.returns
returns c = one_reading
