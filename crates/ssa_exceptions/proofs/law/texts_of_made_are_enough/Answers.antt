use Rattle.ssa_exceptions.proofs.Told.{texts-are-enough}
use Rattle.ssa_exceptions.proofs.law.texts_of_made_are_enough.Goals as goal

pub returns : goal.returns
returns c = texts-are-enough c.uncaught_is_made.ensures
