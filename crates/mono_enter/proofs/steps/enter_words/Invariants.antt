use Rattle.std.proofs.Common.{nat_eq}
use Rattle.indexmap.specs.IndexMap.{get}
use Rattle.ir_tables.specs.Rows.{constructors_at}
use Rattle.mono_enter.proofs.Walking.{SoFar}
use Rattle.mono_enter.proofs.steps.enter_words.Given as goal

abbrev pub invariant-loop-at : goal.invariant-loop-at
invariant-loop-at l = SoFar l.tables.closed.now (constructors_at l.tables.sources.now l.tables.constructors.now) l.words l.fn.types l.at l.stand (get nat_eq l.known) l.types
