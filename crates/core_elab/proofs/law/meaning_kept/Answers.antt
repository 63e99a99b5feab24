use Rattle.core_elab.proofs.Initial.{meaning-kept-initial}
use Rattle.core_elab.proofs.law.meaning_kept.Goals as goal

pub returns : goal.returns
returns c = meaning-kept-initial
