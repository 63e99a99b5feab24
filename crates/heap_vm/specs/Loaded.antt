-- A machine with its code.
use Rattle.std.specs.Prelude.{ℕ, List, [], Option, Some, None}
use Rattle.ir_code.specs.Program.{Program}
use Rattle.ir_code.specs.Machine.{State, start}
use Rattle.ir_code.specs.Run.{End, ended, uncaught, no_heap, no_stack, stuck, going, uncaught_name}
use Rattle.ir_code.specs.declared.instr.Instr.{Instr}
use Rattle.ir_code.specs.declared.halt.Halt.{Halt}
use Rattle.ir_code.specs.declared.halt.Halt.TheVariants.{Ended as at_end, Uncaught as at_packet, NoHeap as at_heap, NoStack as at_stack, Stuck as at_wrong}
use Rattle.heap_vm.specs.declared.stop.Stop.{Stop}
use Rattle.heap_vm.specs.declared.stop.Stop.TheVariants.{Steps, Ended, Uncaught, NoHeap, NoStack, Stuck, WriteFault}

-- the code, the state, and the answer of the last run: Steps before the first
pub record Loaded : Type 0 where
  pub code : List Instr
  pub state : State
  pub stop : Stop

-- a program at its start, with a heap and a stack of so many words
abbrev pub loaded : Program → ℕ → ℕ → Loaded
loaded program heap stack = record {
  code = program.code;
  state = start program.constants heap stack;
  stop = Steps;
}

-- the answer at a halt
abbrev pub halt_stop : Halt → Stop
halt_stop at_end = Ended
halt_stop at_packet = Uncaught
halt_stop at_heap = NoHeap
halt_stop at_stack = NoStack
halt_stop at_wrong = Stuck

-- the answer at the end of so many steps
abbrev pub stop_of : Option Halt → Stop
stop_of None = Steps
stop_of (Some h) = halt_stop h

-- the end that an answer tells of a run; none, where a fault of the sink cut it short
abbrev pub told_end : Stop → State → Option End
told_end Steps s = Some going
told_end Ended s = Some ended
told_end Uncaught s = Some (uncaught (uncaught_name s))
told_end NoHeap s = Some no_heap
told_end NoStack s = Some no_stack
told_end Stuck s = Some stuck
told_end WriteFault s = None

-- the name of the packet that no handler took, and nothing after another answer
abbrev pub told_name : Stop → State → List ℕ
told_name Steps s = []
told_name Ended s = []
told_name Uncaught s = uncaught_name s
told_name NoHeap s = []
told_name NoStack s = []
told_name Stuck s = []
told_name WriteFault s = []
