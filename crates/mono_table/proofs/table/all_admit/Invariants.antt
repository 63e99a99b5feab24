use Rattle.ir_mono.specs.Types.{admits}
use Rattle.mono_table.proofs.Lists.{Left}
use Rattle.mono_table.proofs.table.all_admit.Given as goal

abbrev pub invariant-loop-i : goal.invariant-loop-i
invariant-loop-i l = Left (admits l.types) l.parts l.i
