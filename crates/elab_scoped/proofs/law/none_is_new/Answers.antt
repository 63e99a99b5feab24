use Rattle.elab_scoped.proofs.Phrases.{none_is_new}
use Rattle.elab_scoped.proofs.law.none_is_new.Goals as goal

pub returns : goal.returns
returns c = none_is_new
