use Rattle.general_worlds.proofs.Declaring.{entered-tidy}
use Rattle.general_worlds.proofs.law.entered_is_tidy.Goals as goal

pub returns : goal.returns
returns c = entered-tidy
