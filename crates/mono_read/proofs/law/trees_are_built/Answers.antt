use Rattle.mono_read.proofs.Built.{exp-built}
use Rattle.mono_read.proofs.law.trees_are_built.Goals as goal

pub returns : goal.returns
returns c types e ws = exp-built types e ws
