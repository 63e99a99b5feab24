use Rattle.std.proofs.Common.{unwrap_or, sym, ap, ◌∙◌, arith}
use Rattle.mono_number.proofs.Moving.{number-found}
use Rattle.mono_number.proofs.walk.number_at.Goals as goal

pub returns-in-Some : goal.returns-in-Some
returns-in-Some c = λ known H index N.
    number-found c.args.limit known H index N c.args.copy (let q = c.if-copy-limit.false in omega (arith, q)) c.args.walk.now.names c.requires.below ∙ ap (λ o. unwrap_or o 0) (sym c.find.ensures ∙ c.in-Some.is)

pub returns-in-None : goal.returns-in-None
returns-in-None c = λ known H index N.
    number-found c.args.limit known H index N c.args.copy (let q = c.if-copy-limit.false in omega (arith, q)) c.args.walk.now.names c.requires.below ∙ ap (λ o. unwrap_or o 0) (sym c.find.ensures ∙ c.in-None.is)
