use Rattle.run_end.proofs.Worlds.{settled-one}
use Rattle.run_end.proofs.law.settled_types_are_one.Goals as goal

pub returns : goal.returns
returns c = settled-one
