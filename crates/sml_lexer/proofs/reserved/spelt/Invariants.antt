use Rattle.std.proofs.Common.{◌≡◌, drop}
use Rattle.sml_lexer.specs.ReservedWords.{spelt}
use Rattle.sml_lexer.proofs.reserved.spelt.Given as goal

abbrev pub invariant-loop-word : goal.invariant-loop-word
invariant-loop-word l = spelt (drop l.word-index l.words) l.text ≡ spelt l.words l.text
