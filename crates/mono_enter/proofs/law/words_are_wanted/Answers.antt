use Rattle.mono_enter.proofs.Wanting.{whole-wanted}
use Rattle.mono_enter.proofs.law.words_are_wanted.Goals as goal

pub returns : goal.returns
returns c e = whole-wanted e
