-- What emit promises.
use Rattle.std.specs.Prelude.{◌≢◌, ℕ, ◌+◌, ◌^◌, ◌<◌, List, length}
use Rattle.mlc_runs.specs.Outcome.{wrong}
use Rattle.ir_code.specs.Program as machine
use Rattle.ir_code.specs.Run.{run_of}
use Rattle.ir_ssa.specs.Tree.{Program}
use Rattle.ir_ssa.specs.Meaning.{meaning}
use Rattle.ir_ssa.specs.WellFormed.{IsWellFormed}
use Rattle.same_runs.specs.SameRuns.{SameRuns}
use Rattle.machine_code.specs.Image.{text_of}
use Rattle.image_size.specs.of_image_law.ImageOf.{IsImageOf}
use Rattle.image_size.specs.Size.{words}

-- of a well formed program that is wrong at no number of turns: the runs of the image do what the program does, in every heap and stack
abbrev pub Does : List (List ℕ) → Program → machine.Program → Type 0
Does names p image =
    IsWellFormed p → ((m : ℕ) → (meaning p m).end ≢ wrong)
    → (heap stack : ℕ) → stack < 2 ^ 32 → length image.constants + heap < 2 ^ 31 → SameRuns (text_of names) (meaning p) (run_of image heap stack)

-- the image has more words than one may have
abbrev pub IsTooLong : List (List ℕ) → Program → Type 0
IsTooLong names p = (image : machine.Program) × IsImageOf names p image × (2 ^ 27 < words image)
