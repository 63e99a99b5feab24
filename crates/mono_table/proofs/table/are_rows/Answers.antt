use Rattle.std.proofs.Common.{◌≡◌, ◌+◌, suc, true, length, subst, arith}
use Rattle.mono_table.specs.Right.{rows_right}
use Rattle.mono_table.proofs.Rows.{rows-next, rows-stop, rows-all}
use Rattle.mono_table.proofs.table.are_rows.Goals as goal

pub returns-then-not-right : goal.returns-then-not-right
returns-then-not-right c = rows-stop c.args.types.now (length c.args.types.now) c.loop-n.n c.is_row-right.result (omega arith) c.is_row-right.ensures c.if-not-right.true

pub loop-n-preserved : goal.loop-n-preserved
loop-n-preserved c =
    let more : suc c.loop-n.n ≡ c.loop-n.n + 1 = omega arith in
    subst (λ n. rows_right c.args.types.now n ≡ true) more (rows-next c.args.types.now c.loop-n.n c.is_row-right.result c.is_row-right.ensures c.if-not-right.false c.loop-n.invariant)

pub returns : goal.returns
returns c = rows-all c.args.types.now (length c.args.types.now) c.loop-n.n (omega arith) c.loop-n.invariant
