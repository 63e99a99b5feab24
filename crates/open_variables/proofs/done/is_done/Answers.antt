use Rattle.std.proofs.Common.{◌∙◌, ap, nat_eq, arith}
use Rattle.open_variables.proofs.Limits.{limit-there, never-done}
use Rattle.open_variables.proofs.done.is_done.Goals as goal

pub returns-then-v-len : goal.returns-then-v-len
returns-then-v-len c =
    let ls = c.args.solver.now.limits.items in
    ap (λ l. nat_eq l.level 18446744073709551615)
    (c.index.ensures ∙ limit-there ls c.args.v c.index.result.now (omega (arith, c.if-v-len.true, c.len.ensures, c.args.solver.now.limits.ok.0)))

pub returns-else-v-len : goal.returns-else-v-len
returns-else-v-len c =
    never-done c.args.solver.now.limits.items c.args.v c.len.result c.if-v-len.false (omega (arith, c.len.ensures, c.args.solver.now.limits.ok.0))
