use Rattle.general_worlds.proofs.Declaring.{declaration-grows}
use Rattle.general_worlds.proofs.law.declarations_grow.Goals as goal

pub returns : goal.returns
returns c = declaration-grows
