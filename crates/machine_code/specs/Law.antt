-- The image of a program that is never wrong does what the program does.
use Rattle.std.specs.Prelude.{◌≡◌, ◌≢◌, ℕ, ◌+◌, List, length, ◌<◌, ◌≤◌, ◌^◌, true}
use Rattle.std.specs.List.{AllByRecursion}
use Rattle.mlc_runs.specs.Outcome.{wrong}
use Rattle.ir_code.specs.Machine.{all_bytes}
use Rattle.ir_code.specs.Run.{run_of}
use Rattle.ir_ssa.specs.Tree.{Program}
use Rattle.ir_ssa.specs.Meaning.{meaning}
use Rattle.ir_ssa.specs.WellFormed.{IsWellFormed}
use Rattle.same_runs.specs.SameRuns.{SameRuns}
use Rattle.machine_code.specs.Rows.{Rows, AreRight}
use Rattle.machine_code.specs.Image.{most_code, text_of, constants_of, code_of, image_of}

-- identifiers are written in bytes, and the code fits an image
pub record IsFit (rows : Rows) (texts : List (List ℕ)) (p : Program) : Type 0 where
  pub bytes : AllByRecursion (λ t. all_bytes t ≡ true) texts
  pub fits : length (code_of rows texts p) ≤ most_code

-- whatever the heap and the stack
abbrev pub CodeIsRight : Type 0
CodeIsRight =
    (rows : Rows) → AreRight rows → (texts : List (List ℕ)) (p : Program) → IsWellFormed p → IsFit rows texts p
    → ((m : ℕ) → (meaning p m).end ≢ wrong) → (heap stack : ℕ) → stack < 2 ^ 32 → length (constants_of rows texts p) + heap < 2 ^ 31
    → SameRuns (text_of texts) (meaning p) (run_of (image_of rows texts p) heap stack)
