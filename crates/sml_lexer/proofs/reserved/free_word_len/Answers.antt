use Rattle.std.proofs.Common.{ap, ◌∙◌}
use Rattle.sml_lexer.specs.ReservedWords.{beginning, free_len, words}
use Rattle.sml_lexer.proofs.ReservedLemmas.{free_beginning}
use Rattle.sml_lexer.proofs.reserved.free_word_len.Goals as goal

pub returns-clause-longest : goal.returns-clause-longest
returns-clause-longest c =
    let len = c.args.len in
    let text = c.args.text.now in
    c.free_len.ensures.longest ∙ ap (λ some. free_len some len text) (c.words_from.ensures ∙ ap (λ first. beginning first words) c.byte_at.ensures) ∙ free_beginning words len text
