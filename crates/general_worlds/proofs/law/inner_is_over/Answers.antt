use Rattle.general_worlds.proofs.Telling.{inner-over}
use Rattle.general_worlds.proofs.law.inner_is_over.Goals as goal

pub returns : goal.returns
returns c = inner-over
