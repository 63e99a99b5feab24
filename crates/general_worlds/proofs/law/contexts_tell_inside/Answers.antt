use Rattle.general_worlds.proofs.Telling.{tells-inside}
use Rattle.general_worlds.proofs.law.contexts_tell_inside.Goals as goal

pub returns : goal.returns
returns c = tells-inside
