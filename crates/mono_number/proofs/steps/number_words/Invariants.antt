use Rattle.std.proofs.Common.{nat_eq}
use Rattle.indexmap.specs.IndexMap.{get}
use Rattle.mono_number.proofs.Heads.{SoFar}
use Rattle.mono_number.proofs.steps.number_words.Given as goal

abbrev pub invariant-loop-i : goal.invariant-loop-i
invariant-loop-i l = SoFar l.limit (get nat_eq l.known) l.words l.i l.walk
