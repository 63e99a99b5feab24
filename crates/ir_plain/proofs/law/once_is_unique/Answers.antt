use Rattle.ir_plain.proofs.UniqueLemmas.{once-unique}
use Rattle.ir_plain.proofs.law.once_is_unique.Goals as goal

pub returns : goal.returns
returns g c = once-unique
