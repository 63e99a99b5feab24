use Rattle.name_scopes.proofs.Declaring.{in-some}
use Rattle.name_scopes.proofs.datas.in_some_written.Goals as goal

pub returns-in-Some : goal.returns-in-Some
returns-in-Some c u bs e n h = in-some c.args.sought.now e bs c.args.ty.now c.in-Some.ty c.in-Some.is (c.in_written.ensures u bs e n h)
