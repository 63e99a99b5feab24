use Rattle.general_worlds.proofs.Worlds.{comes-inside}
use Rattle.general_worlds.proofs.law.worlds_generalise.Goals as goal

pub returns : goal.returns
returns c = comes-inside
