-- What the runner says of an image.
use Rattle.std.specs.Prelude.{◌≡◌, List, ℕ}
use Rattle.mlc_outside.specs.Faults.{Rose}
use Rattle.mlc_outside.specs.Sink.{adds}
use Rattle.ir_code.specs.Program.{Program}
use Rattle.ir_code.specs.Run.{End, ended, uncaught, no_heap, no_stack, going}
use Rattle.heap_vm.specs.Loaded.{told_name}
use Rattle.core_rules.specs.Laws.{IsPrefix}
use Rattle.mlc_program.specs.Command.{Command}
use Rattle.mlc_program.specs.Outside.{Stream}
use Rattle.mlc_program.specs.Statuses.{run_by, Unwritten}
use Rattle.mlc_program.specs.declared.exit.Exit.{Exit}
use Rattle.mlc_program.specs.declared.exit.Exit.TheVariants.{Ended, Uncaught, StepLimit, OutOfHeap, OutOfStack, Refused, Missing, ReadFailed, StoreFailed, OutFailed, NoMemory}

-- the whole output of the run was written, and the run ended so
abbrev pub Ran : End → Command → Program → Stream → Stream → Type 0
Ran end c image out out' = (out'.bytes ≡ adds out.bytes (run_by c image).output) × ((run_by c image).end ≡ end)

-- out failed, and took a prefix of the run's output
pub record OutCut (c : Command) (image : Program) (out out' : Stream) : Type 0 where
  pub rose : Rose out.faults out'.faults
  pub sent : List ℕ
  pub part : IsPrefix sent (run_by c image).output
  pub output : out'.bytes ≡ adds out.bytes sent

-- the exit of a run of an image
abbrev pub Runs : Exit → Command → Program → Stream → Stream → Type 0
Runs Ended c image out out' = Ran ended c image out out'
Runs (Uncaught vm) c image out out' = Ran (uncaught (told_name vm.stop vm.state)) c image out out'
Runs StepLimit c image out out' = Ran going c image out out'
Runs OutOfHeap c image out out' = Ran no_heap c image out out'
Runs OutOfStack c image out out' = Ran no_stack c image out out'
Runs (Refused line) c image out out' = ⊥
Runs (Missing path) c image out out' = ⊥
Runs (ReadFailed path) c image out out' = ⊥
Runs StoreFailed c image out out' = ⊥
Runs OutFailed c image out out' = OutCut c image out out'
Runs NoMemory c image out out' = Unwritten out.bytes out'.bytes out.faults out'.faults
