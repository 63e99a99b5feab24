use Rattle.general_worlds.proofs.Declaring.{open-held}
use Rattle.general_worlds.proofs.law.open_types_are_held.Goals as goal

pub returns : goal.returns
returns c = open-held
