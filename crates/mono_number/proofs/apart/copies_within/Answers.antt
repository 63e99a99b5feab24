use Rattle.std.proofs.Common.{sym, ◌∙◌, arith}
use Rattle.mono_number.proofs.NamesApart.{within-next}
use Rattle.mono_number.proofs.apart.copies_within.Goals as goal

pub loop-n-preserved : goal.loop-n-preserved
loop-n-preserved c =
    let q = c.if-list-limit.false in
    let e = c.in-Some.list-is in
    within-next c.args.limit c.args.copies.now c.loop-n.n _ (sym c.get.ensures ∙ c.in-Some.is) (omega (arith, q, e)) c.loop-n.invariant
