use Rattle.mono_table.specs.Right.{numbers_in, argument_flag}
use Rattle.ir_mono.specs.Types.{constructor_at}
use Rattle.mono_table.proofs.Lists.{Left}
use Rattle.mono_table.proofs.table.arguments_admit.Given as goal

abbrev pub invariant-loop-i : goal.invariant-loop-i
invariant-loop-i l = Left (λ c. argument_flag l.types (constructor_at l.types l.n c)) (numbers_in l.constructors) l.i
