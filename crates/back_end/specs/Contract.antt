-- What an image does.
use Rattle.std.specs.Prelude.{ℕ, ◌+◌, ◌^◌, ◌<◌, List, length}
use Rattle.ir_code.specs.Program as machine
use Rattle.ir_code.specs.Run.{run_of}
use Rattle.same_runs.specs.SameRuns.{SameRuns}
use Rattle.machine_code.specs.Image.{text_of}
use Rattle.match_pass.specs.of_ir_prog.Programs.{meaning}
use Rattle.match_pass.specs.of_ir_prog.declared.program.Program.{Program}

-- the runs of the image and the program's meaning do the same, in every heap and stack that a machine may have
abbrev pub Does : List (List ℕ) → Program → machine.Program → Type 0
Does names p image =
    (heap stack : ℕ) → stack < 2 ^ 32 → length image.constants + heap < 2 ^ 31 → SameRuns (text_of names) (meaning p) (run_of image heap stack)
