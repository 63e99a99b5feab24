use Rattle.general_worlds.proofs.Declaring.{earlier-outer}
use Rattle.general_worlds.proofs.law.earlier_are_outer.Goals as goal

pub returns : goal.returns
returns c = earlier-outer
