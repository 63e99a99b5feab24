use Rattle.std.proofs.Common.{ap, ◌∙◌}
use Rattle.sml_lexer.specs.ReservedWords.{beginning, words, spelt}
use Rattle.sml_lexer.proofs.ReservedLemmas.{spelt_beginning}
use Rattle.sml_lexer.proofs.reserved.word_of.Goals as goal

pub returns : goal.returns
returns c =
    let text = c.args.text.now in
    c.spelt.ensures ∙ ap (λ some. spelt some text) (c.words_from.ensures ∙ ap (λ first. beginning first words) c.byte_at.ensures) ∙ spelt_beginning words text
