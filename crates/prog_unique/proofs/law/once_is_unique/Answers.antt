use Rattle.prog_unique.proofs.UniqueLemmas.{once-unique}
use Rattle.prog_unique.proofs.law.once_is_unique.Goals as goal

pub returns : goal.returns
returns c = once-unique
