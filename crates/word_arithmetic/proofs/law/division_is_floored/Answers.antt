use Rattle.word_arithmetic.proofs.Floors.{division-is-floored}
use Rattle.word_arithmetic.proofs.law.division_is_floored.Goals as goal

pub returns : goal.returns
returns c = division-is-floored
