use Rattle.name_scopes.proofs.Declaring.{in-types}
use Rattle.name_scopes.proofs.FromEnd.{has-read}
use Rattle.name_scopes.proofs.datas.in_types.Goals as goal

pub returns-then-in_ty : goal.returns-then-in_ty
returns-then-in_ty c u e h =
    in-types c.args.sought.now e c.args.binds.now c.index-binds-i.result (has-read c.args.binds.now c.loop-i.i c.index-binds-i.result c.loop-i-test.true c.index-binds-i.is) (c.if-in_ty.ensures u e h)
