use Rattle.std.proofs.Common.{◌≡◌, ◌∙◌, Some, refl, sym, ap, true, false}
use Rattle.mlc_names.specs.declared.token.Reserved.TheVariants as res
use Rattle.sml_grammar.specs.Terminals.{word_at}
use Rattle.phrase_base.specs.Left.{left}
use Rattle.sml_phrases.proofs.DecForms.{infix-at, nonfix-at}
use Rattle.sml_phrases.proofs.simple_decs.simple_dec.Goals as goal

pub returns-in-Some-Infix : goal.returns-in-Some-Infix
returns-in-Some-Infix c =
    let i = left c.args.source.now c.args.tokens.now in
    let w : word_at i ≡ Some res.Infix = sym c.word_at.ensures ∙ c.in-Some-Infix.is ∙ ap Some c.in-Some-Infix.field-0-is in
    record { gives = infix-at c.args.fix.now c.infix_dec.new.fix c.args.source.now c.args.n i _ res.Infix false c.infix_dec.result w refl c.tail-inner.ensures c.infix_dec.ensures.gives }

pub returns-in-Some-Infixr : goal.returns-in-Some-Infixr
returns-in-Some-Infixr c =
    let i = left c.args.source.now c.args.tokens.now in
    let w : word_at i ≡ Some res.Infixr = sym c.word_at.ensures ∙ c.in-Some-Infixr.is ∙ ap Some c.in-Some-Infixr.field-0-is in
    record { gives = infix-at c.args.fix.now c.infix_dec-in-Some-Infixr.new.fix c.args.source.now c.args.n i _ res.Infixr true c.infix_dec-in-Some-Infixr.result w refl c.tail-inner.ensures c.infix_dec-in-Some-Infixr.ensures.gives }

pub returns-in-Some-Nonfix : goal.returns-in-Some-Nonfix
returns-in-Some-Nonfix c =
    let i = left c.args.source.now c.args.tokens.now in
    let w : word_at i ≡ Some res.Nonfix = sym c.word_at.ensures ∙ c.in-Some-Nonfix.is ∙ ap Some c.in-Some-Nonfix.field-0-is in
    record { gives = nonfix-at c.args.fix.now c.directive.new.fix c.args.source.now c.args.n i _ c.directive.result w c.tail-inner.ensures c.directive.ensures.gives }
