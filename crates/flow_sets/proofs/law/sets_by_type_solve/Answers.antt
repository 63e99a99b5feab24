use Rattle.flow_sets.proofs.Known.{by-type-solves}
use Rattle.flow_sets.proofs.law.sets_by_type_solve.Goals as goal

pub returns : goal.returns
returns c = by-type-solves
