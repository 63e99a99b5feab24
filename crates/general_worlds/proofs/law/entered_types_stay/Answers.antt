use Rattle.general_worlds.proofs.Declaring.{entered-type}
use Rattle.general_worlds.proofs.law.entered_types_stay.Goals as goal

pub returns : goal.returns
returns c = entered-type
