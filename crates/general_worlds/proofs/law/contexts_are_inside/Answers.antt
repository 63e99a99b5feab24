use Rattle.general_worlds.proofs.Contexts.{context-inside}
use Rattle.general_worlds.proofs.law.contexts_are_inside.Goals as goal

pub returns : goal.returns
returns c = context-inside
