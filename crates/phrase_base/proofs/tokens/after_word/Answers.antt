use Rattle.std.proofs.Common.{Some, ◌∙◌, sym, ap}
use Rattle.phrase_base.specs.Left.{left}
use Rattle.phrase_base.proofs.Words.{after_here, after_elsewhere}
use Rattle.phrase_base.proofs.tokens.after_word.Goals as goal

pub returns-then-eq : goal.returns-then-eq
returns-then-eq c =
    after_here (left c.args.source.now c.args.tokens.now) c.in-Some.first c.args.word (sym c.word_at.ensures ∙ c.in-Some.is) (sym c.eq.ensures ∙ c.if-eq.true)
    ∙ ap Some (sym c.tail.ensures)

pub returns-else-eq : goal.returns-else-eq
returns-else-eq c =
    after_elsewhere (left c.args.source.now c.args.tokens.now) c.in-Some.first c.args.word (sym c.word_at.ensures ∙ c.in-Some.is) (sym c.eq.ensures ∙ c.if-eq.false)
