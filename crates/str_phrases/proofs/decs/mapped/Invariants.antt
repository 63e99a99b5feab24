use Rattle.str_phrases.proofs.Growing.{Cores}
use Rattle.str_phrases.proofs.decs.mapped.Given as goal

abbrev pub invariant-loop-dec : goal.invariant-loop-dec
invariant-loop-dec g l = Cores l.made.items l.yielded
