-- What each exit of the compiler says, and the status and line that tell it.
use Rattle.std.specs.Prelude.{◌≡◌, ℕ, ◌⊎◌, List, [], ◌++◌, codes}
use Rattle.std.specs.String.{string_bytes}
use Rattle.mlc_outside.specs.Faults.{Rose}
use Rattle.ir_code.specs.Run.{End, ended, uncaught, no_heap, no_stack, going}
use Rattle.heap_vm.specs.Loaded.{told_name}
use Rattle.mlc_program.specs.Command.{Command}
use Rattle.mlc_program.specs.Outside.{Disk, Stream}
use Rattle.mlc_program.specs.Statuses.{Built, RanTo, StoreFailed, OutFailed, Unwritten, Refuses, Misses, Needs, uncaught_line}
use Rattle.mlc_program.specs.declared.exit.Exit.{Exit}
use Rattle.mlc_program.specs.declared.exit.Exit.TheVariants.{Ended, Uncaught, StepLimit, OutOfHeap, OutOfStack, Refused, Missing, ReadFailed, StoreFailed as Store_failed, OutFailed as Out_failed, NoMemory}

-- an exit before the image is in its file
abbrev pub Unbuilt : Exit → Disk → Disk → Command → Type 0
Unbuilt Ended old new c = ⊥
Unbuilt (Uncaught vm) old new c = ⊥
Unbuilt StepLimit old new c = ⊥
Unbuilt OutOfHeap old new c = ⊥
Unbuilt OutOfStack old new c = ⊥
Unbuilt (Refused line) old new c = (new.files ≡ old.files) × Refuses old.files c (string_bytes line)
Unbuilt (Missing path) old new c = (new.files ≡ old.files) × Misses old.files c (string_bytes path)
Unbuilt (ReadFailed path) old new c = (new.files ≡ old.files) × Needs old.files c (string_bytes path) × Rose old.read_faults new.read_faults
Unbuilt Store_failed old new c = StoreFailed old.files new.files old.write_faults new.write_faults c
Unbuilt Out_failed old new c = ⊥
Unbuilt NoMemory old new c = new.files ≡ old.files

-- the run of the command's image ended so
abbrev pub RunExit : End → Disk → Disk → Stream → Stream → Command → Type 0
RunExit end old new out out' c = RanTo end old.files new.files out.bytes out'.bytes c

-- nothing was sent to out
abbrev pub IsUntouched : Stream → Stream → Type 0
IsUntouched out out' = Unwritten out.bytes out'.bytes out.faults out'.faults

-- an exit of the whole
abbrev pub Exited : Exit → Disk → Disk → Stream → Stream → Command → Type 0
Exited Ended old new out out' c = RunExit ended old new out out' c
Exited (Uncaught vm) old new out out' c = RunExit (uncaught (told_name vm.stop vm.state)) old new out out' c
Exited StepLimit old new out out' c = RunExit going old new out out' c
Exited OutOfHeap old new out out' c = RunExit no_heap old new out out' c
Exited OutOfStack old new out out' c = RunExit no_stack old new out out' c
Exited (Refused line) old new out out' c = Unbuilt (Refused line) old new c × IsUntouched out out'
Exited (Missing path) old new out out' c = Unbuilt (Missing path) old new c × IsUntouched out out'
Exited (ReadFailed path) old new out out' c = Unbuilt (ReadFailed path) old new c × IsUntouched out out'
Exited Store_failed old new out out' c = Unbuilt Store_failed old new c × IsUntouched out out'
Exited Out_failed old new out out' c = OutFailed old.files new.files out.bytes out'.bytes out.faults out'.faults c
Exited NoMemory old new out out' c = ((new.files ≡ old.files) ⊎ Built old.files new.files c) × IsUntouched out out'

-- the status and the line that tell an exit
abbrev pub status_of : Exit → ℕ
status_of Ended = 0
status_of (Uncaught vm) = 1
status_of StepLimit = 3
status_of OutOfHeap = 4
status_of OutOfStack = 5
status_of (Refused line) = 2
status_of (Missing path) = 6
status_of (ReadFailed path) = 7
status_of Store_failed = 8
status_of Out_failed = 8
status_of NoMemory = 11

abbrev pub line_of : Exit → List ℕ
line_of Ended = []
line_of (Uncaught vm) = uncaught_line (told_name vm.stop vm.state)
line_of StepLimit = codes "step limit\n"
line_of OutOfHeap = codes "out of heap\n"
line_of OutOfStack = codes "out of stack\n"
line_of (Refused line) = string_bytes line
line_of (Missing path) = string_bytes path ++ codes ": no such file\n"
line_of (ReadFailed path) = string_bytes path ++ codes ": read failed\n"
line_of Store_failed = codes "write failed\n"
line_of Out_failed = codes "write failed\n"
line_of NoMemory = codes "out of memory\n"
