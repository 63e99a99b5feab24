-- How the machine's parts are a state of the word machine.
use Rattle.std.specs.Prelude.{ℕ, ◌+◌, ◌^◌, ◌<◌, ◌≤◌, List, length, slice_index, Result, Ok, Err}
use Rattle.std.specs.List.{All}
use Rattle.ir_code.specs.Machine.{State, StepResult, Goes, Prints, Halts, name_at, next, string_at}
use Rattle.ir_code.specs.declared.halt.Halt.{Halt}
use Rattle.ir_code.specs.declared.halt.Halt.TheVariants.{Ended as at_end, Uncaught as uncaught, NoHeap as no_heap, NoStack as no_stack, Stuck as stuck}
use Rattle.heap_vm.specs.declared.stop.Stop.{Stop}
use Rattle.heap_vm.specs.declared.stop.Stop.TheVariants.{Steps, Ended, Uncaught, NoHeap, NoStack, Stuck, WriteFault}
use Rattle.heap_vm.specs.declared.registers.Registers.{Registers}
use Rattle.heap_vm.specs.declared.registers.Flow.{Flow}
use Rattle.heap_vm.specs.declared.registers.Flow.TheVariants.{Go, Print}

abbrev pub state_of : Registers → List ℕ → List ℕ → State
state_of r stack memory = record {
  pc = r.pc;
  fp = r.fp;
  acc = r.acc;
  handler = r.handler;
  base = r.base;
  limit = r.limit;
  stack = stack;
  memory = memory;
}

-- what an instruction led to
abbrev pub flow_result : Flow → State → StepResult
flow_result Go s = Goes s
flow_result (Print x) s = Prints (string_at s.memory x) (next s)

abbrev pub step_result : Result Flow Halt → State → StepResult
step_result (Ok flow) s = flow_result flow s
step_result (Err h) s = Halts h s

-- what holds before each step
pub record Fits (r : Registers) (stack memory : List ℕ) : Type 0 where
  pub behind : r.base ≤ r.limit
  pub in_memory : r.limit ≤ length memory
  pub memory_fits : length memory < 2 ^ 32
  pub stack_fits : length stack ≤ 2 ^ 32

-- a string of bytes at x lies in the memory
abbrev pub IsString : List ℕ → ℕ → Type 0
IsString memory x = (x + 1 + slice_index memory x ≤ length memory) × (x < length memory) × All (λ w. w < 256) (string_at memory x)

-- the packet in acc has a name
abbrev pub HasName : Registers → List ℕ → Type 0
HasName r memory = (r.acc < length memory) × (slice_index memory r.acc < length memory) × IsString memory (name_at memory r.acc)

-- what an instruction promises of the memory: a string that is to be sent, and the name of a packet that meets no handler, are there
abbrev pub FlowSendable : Flow → Registers → List ℕ → Type 0
FlowSendable Go r memory = Unit {0}
FlowSendable (Print x) r memory = (r.pc + 1 < 2 ^ 32) × IsString memory x

abbrev pub HaltNamed : Halt → Registers → List ℕ → Type 0
HaltNamed at_end r memory = Unit {0}
HaltNamed uncaught r memory = HasName r memory
HaltNamed no_heap r memory = Unit {0}
HaltNamed no_stack r memory = Unit {0}
HaltNamed stuck r memory = Unit {0}

abbrev pub Sendable : Result Flow Halt → Registers → List ℕ → Type 0
Sendable (Ok flow) r memory = FlowSendable flow r memory
Sendable (Err h) r memory = HaltNamed h r memory

-- the same of the answer of a run
abbrev pub Named : Stop → Registers → List ℕ → Type 0
Named Steps r memory = Unit {0}
Named Ended r memory = Unit {0}
Named Uncaught r memory = HasName r memory
Named NoHeap r memory = Unit {0}
Named NoStack r memory = Unit {0}
Named Stuck r memory = Unit {0}
Named WriteFault r memory = Unit {0}
