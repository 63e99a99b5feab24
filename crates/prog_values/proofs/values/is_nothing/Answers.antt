use Rattle.prog_values.proofs.Valued.{nil-none}
use Rattle.prog_values.proofs.values.is_nothing.Goals as goal

pub returns : goal.returns
returns g c = nil-none c.args.list.now c.is_empty.result c.is_empty.ensures
