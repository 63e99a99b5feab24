use Rattle.ir_mono.specs.Types as table
use Rattle.std.proofs.Common.{List}
use Rattle.mono_read.specs.Reads.{Texts, stack_in}
use Rattle.mono_read.proofs.Stacked.{FunctionsSoFar}
use Rattle.mono_read.proofs.parts.take_functions.Given as goal

abbrev pub invariant-loop-i : goal.invariant-loop-i
invariant-loop-i l = (types : List table.Row) (strings : Texts)
    → FunctionsSoFar types strings l.heads l.i (stack_in types strings l.fn.stack.items) (stack_in types strings l.stack.items) l.made.items
