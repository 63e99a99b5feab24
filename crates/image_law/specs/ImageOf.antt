-- An image of a program, with the texts of the identifiers that it has.
use Rattle.std.specs.Prelude.{◌≡◌, ◌≢◌, ℕ, ◌+◌, ◌*◌, ◌^◌, ◌<◌, ◌≤◌, List, [], ◌∷◌, length, Bool, true, false, ◌||◌, nat_eq, if◌then◌else◌}
use Rattle.std.specs.List.{AllByRecursion}
use Rattle.mlc_runs.specs.Outcome.{wrong}
use Rattle.ir_code.specs.Machine.{all_bytes}
use Rattle.ir_code.specs.Program as machine
use Rattle.ir_code.specs.Run.{run_of}
use Rattle.ir_ssa.specs.Tree.{Program}
use Rattle.ir_ssa.specs.Meaning.{meaning}
use Rattle.ir_ssa.specs.WellFormed.{IsWellFormed}
use Rattle.same_runs.specs.SameRuns.{SameRuns}
use Rattle.ssa_tree.specs.Exceptions.{exceptions}
use Rattle.machine_code.specs.Image.{text_of, image_of}
use Rattle.machine_rows.specs.Table.{rows}

abbrev pub has : List ℕ → ℕ → Bool
has [] i = false
has (n ∷ ns) i = nat_eq i n || has ns i

-- what an identifier is written as where it is one of these, else empty
abbrev pub text_in : List (List ℕ) → List ℕ → ℕ → List ℕ
text_in names made i = if has made i then text_of names i else []

-- all identifiers are written as in names; the image has the texts of those that the program makes
pub record IsImageOf (names : List (List ℕ)) (p : Program) (image : machine.Program) : Type 0 where
  pub texts : List (List ℕ)
  pub told : (i : ℕ) → text_of texts i ≡ text_in names (exceptions p) i
  pub is : image ≡ image_of rows texts p

-- such an image, if it is no longer than one may be, does what the program does, whatever the heap and the stack
abbrev pub ImageIsRight : Type 0
ImageIsRight =
    (names : List (List ℕ)) (p : Program) (image : machine.Program) → IsImageOf names p image → IsWellFormed p
    → AllByRecursion (λ t. all_bytes t ≡ true) names → length image.constants + 4 * length image.code ≤ 2 ^ 27
    → ((m : ℕ) → (meaning p m).end ≢ wrong) → (heap stack : ℕ) → stack < 2 ^ 32 → length image.constants + heap < 2 ^ 31
    → SameRuns (text_of names) (meaning p) (run_of image heap stack)
