use Rattle.std.proofs.Common.{arith}
use Rattle.restrictions.proofs.Functions.{first-takes}
use Rattle.restrictions.proofs.fns.take_something.Goals as goal

pub returns : goal.returns
returns c =
    let n = c.index-clauses-0.result.pats.ok.0 in
    let m = c.len.ensures in
    first-takes c.args.clauses.now c.index-clauses-0.result c.len.result c.if-clauses-eq0.false c.index-clauses-0.is (omega (arith, n, m))
