use Rattle.std.proofs.Common.{arith, sym, ◌∙◌}
use Rattle.exp_weights.proofs.DecNodes.{head-one, head-many}
use Rattle.exp_weights.proofs.exps.head_nodes.Goals as goal

pub returns-then-count-eq1 : goal.returns-then-count-eq1
returns-then-count-eq1 c =
    let n = rw c.deref.ensures.value at c.first_count-count.ensures in
    let e = head-one c.args.function.now (sym n ∙ c.if-count-eq1.true) in omega (arith, e)

pub returns : goal.returns
returns c =
    let n = rw c.deref.ensures.value at c.first_count-count.ensures in
    let e = head-many c.args.function.now c.first_count-count.result n c.if-count-eq1.false in
    let m = c.saturating_mul.ensures in let q = c.saturating_add.ensures in omega (arith, e, m, q)
