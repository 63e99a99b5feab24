use Rattle.name_scopes.proofs.Declaring.{in-exns}
use Rattle.name_scopes.proofs.FromEnd.{has-read}
use Rattle.name_scopes.proofs.datas.in_exns.Goals as goal

pub returns-then-in_exn : goal.returns-then-in_exn
returns-then-in_exn c u e h =
    in-exns c.args.sought.now e c.args.binds.now c.index-binds-i.result (has-read c.args.binds.now c.loop-i.i c.index-binds-i.result c.loop-i-test.true c.index-binds-i.is) (c.if-in_exn.ensures u e h)
