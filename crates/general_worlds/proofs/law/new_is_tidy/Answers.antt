use Rattle.elab_steps.proofs.Keeping.{new-tidy}
use Rattle.general_worlds.proofs.law.new_is_tidy.Goals as goal

pub returns : goal.returns
returns c = new-tidy
