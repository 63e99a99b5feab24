use Rattle.std.proofs.Common.{arith}
use Rattle.phrase_base.specs.Left.{left}
use Rattle.sml_phrases.proofs.HeadForms.{none-two, none-paren, none-left}
use Rattle.sml_phrases.proofs.heads.bracketed.Goals as goal

pub returns-then-n-lt2 : goal.returns-then-n-lt2
returns-then-n-lt2 c = λ y h. none-two c.args.n c.args.fix.now (left c.args.source.now c.args.tokens.now) y h (omega (arith, c.if-n-lt2.true))

pub returns-in_default : goal.returns-in_default
returns-in_default c = λ y h. none-paren c.args.n c.args.fix.now (left c.args.source.now c.args.tokens.now) y h c.in_default.ensures

pub returns-in-Some-2 : goal.returns-in-Some-2
returns-in-Some-2 c =
    let i = left c.args.source.now c.args.tokens.now in
    let m = left c.args.source.now c.in-Some.inner.now in
    let one = rw c.in-Some-2.is at c.in_ok-first.ensures in
    λ y h. c.after_first.ensures i m y one.got h c.in-Some.ensures one.is one.same.bare one.same.rest

pub returns-in-None : goal.returns-in-None
returns-in-None c =
    let s = c.args.source.now in
    let i = left s c.args.tokens.now in
    let m = left s c.in-Some.inner.now in
    λ y h. none-left c.args.n c.args.fix.now i y h m c.in-Some.ensures (rw c.in-None.is at c.in_ok-first.ensures)
