use Rattle.general_worlds.proofs.General.{open-general}
use Rattle.general_worlds.proofs.law.open_types_are_general.Goals as goal

pub returns : goal.returns
returns c = open-general
