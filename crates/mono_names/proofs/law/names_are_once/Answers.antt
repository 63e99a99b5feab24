use Rattle.mono_names.proofs.Naming.{names-once}
use Rattle.mono_names.proofs.law.names_are_once.Goals as goal

pub returns : goal.returns
returns c = names-once
