use Rattle.name_scopes.proofs.Declaring.{in-cons}
use Rattle.name_scopes.proofs.FromEnd.{has-read}
use Rattle.name_scopes.proofs.datas.in_cons.Goals as goal

pub returns-then-in_some_written : goal.returns-then-in_some_written
returns-then-in_some_written c u bs e n h =
    in-cons c.args.sought.now e bs c.args.cons.now c.index-cons-i.result (has-read c.args.cons.now c.loop-i.i c.index-cons-i.result c.loop-i-test.true c.index-cons-i.is)
    (c.if-in_some_written.ensures u bs e n h)
