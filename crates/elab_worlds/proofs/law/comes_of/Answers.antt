use Rattle.elab_worlds.proofs.Coming.{comes-of}
use Rattle.elab_worlds.proofs.law.comes_of.Goals as goal

pub returns : goal.returns
returns c = comes-of
