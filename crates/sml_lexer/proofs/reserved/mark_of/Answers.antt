use Rattle.std.proofs.Common.{ap, ◌∙◌}
use Rattle.sml_lexer.specs.ReservedWords.{beginning, marks, spelt}
use Rattle.sml_lexer.proofs.ReservedLemmas.{spelt_beginning}
use Rattle.sml_lexer.proofs.reserved.mark_of.Goals as goal

pub returns : goal.returns
returns c =
    let text = c.args.text.now in
    c.spelt.ensures ∙ ap (λ some. spelt some text) (c.marks_from.ensures ∙ ap (λ first. beginning first marks) c.byte_at.ensures) ∙ spelt_beginning marks text
