use Rattle.general_vals.proofs.Settling.{settled-held}
use Rattle.general_vals.proofs.law.settled_types_are_held.Goals as goal

pub returns : goal.returns
returns c = settled-held
