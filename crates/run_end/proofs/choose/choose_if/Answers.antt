use Rattle.std.proofs.Common.{ap, arith}
use Rattle.run_end.proofs.Choosing.{limit-here}
use Rattle.run_end.proofs.choose.choose_if.Goals as goal

pub returns-then-reach-ge18446744073709551615-clause-chosen : goal.returns-then-reach-ge18446744073709551615-clause-chosen
returns-then-reach-ge18446744073709551615-clause-chosen c = λ k e live W w.
    let h = ap (λ l. l.level) (limit-here c.args.state.now c.args.variable c.index.result.now c.requires.held c.index.ensures) in
    absurd (omega (arith, h, live, c.if-reach-ge18446744073709551615.true))

pub choose_one-requires-clause-live : goal.choose_one-requires-clause-live
choose_one-requires-clause-live c =
    let h = ap (λ l. l.level) (limit-here c.args.state.now c.args.variable c.index.result.now c.requires.held c.index.ensures) in
    omega (arith, h, c.if-reach-ge18446744073709551615.false)
