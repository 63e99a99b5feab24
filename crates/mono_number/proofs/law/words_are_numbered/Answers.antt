use Rattle.mono_number.proofs.Numbering.{whole-numbered}
use Rattle.mono_number.proofs.law.words_are_numbered.Goals as goal

pub returns : goal.returns
returns c types index e b = whole-numbered types index e b
