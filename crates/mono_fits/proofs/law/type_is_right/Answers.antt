use Rattle.mono_fits.proofs.Found.{type-is-right}
use Rattle.mono_fits.proofs.law.type_is_right.Goals as goal

pub returns : goal.returns
returns c = type-is-right
