use Rattle.std.proofs.Common.{nat_eq}
use Rattle.indexmap.specs.IndexMap.{get}
use Rattle.mono_needed.proofs.Chain.{Chaining}
use Rattle.mono_needed.proofs.chains.chain_rows.Given as goal

abbrev pub invariant-loop-i : goal.invariant-loop-i
invariant-loop-i l = Chaining l.rows l.i (get nat_eq l.last) l.before.items
