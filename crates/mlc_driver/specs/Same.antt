-- A project and an image do the same.
use Rattle.std.specs.Prelude.{ℕ, ◌^◌, ◌≤◌, List}
use Rattle.sml_tree.specs.BareTree.{Decs}
use Rattle.ir_code.specs.Program.{Program}
use Rattle.ir_code.specs.Run.{run_of}
use Rattle.same_runs.specs.SameRuns.{SameRuns}
use Rattle.machine_code.specs.Image.{text_of}
use Rattle.core_rules.specs.Project.{Part, project_meaning}

-- whatever the heap and the stack; names tells what identifiers are written as
abbrev pub Same : List (List ℕ) → Decs → List Part → Program → Type 0
Same names prelude parts image =
    (heap stack : ℕ) → 2 ^ 10 ≤ heap → heap ≤ 2 ^ 28 → 2 ^ 8 ≤ stack → stack ≤ 2 ^ 24
    → SameRuns (text_of names) (project_meaning prelude parts) (run_of image heap stack)
