-- The image of a program, with the code of all primitives.
use Rattle.std.specs.Prelude.{◌≢◌, ℕ, ◌+◌, ◌*◌, ◌^◌, ◌<◌, ◌≤◌, List, length}
use Rattle.mlc_runs.specs.Outcome.{wrong}
use Rattle.ir_code.specs.Run.{run_of}
use Rattle.mlc_prims.specs.declared.basis.BasisPrimitive.{BasisPrimitive}
use Rattle.first_values.specs.Operations.{Operands}
use Rattle.machine_primitives.specs.of_ir_ssa.Tree.{Program}
use Rattle.machine_primitives.specs.of_ir_ssa.Meaning.{meaning}
use Rattle.machine_primitives.specs.of_ir_ssa.Size.{nodes_funs}
use Rattle.machine_primitives.specs.of_ir_ssa.WellFormed.{IsWellFormed}
use Rattle.machine_primitives.specs.of_machine_routines.Sizes.{shapes_nodes}
use Rattle.same_runs.specs.SameRuns.{SameRuns}
use Rattle.machine_primitives.specs.of_machine_code.Image.{text_of, constants_of, code_of, image_of}
use Rattle.machine_primitives.specs.of_machine_code.Law.{IsFit}
use Rattle.machine_primitives.specs.of_machine_code.Sizes.{sets_nodes}
use Rattle.machine_rows.specs.Table.{rows}

-- whatever the heap and the stack
abbrev pub ImagesAreRight : Type 0
ImagesAreRight =
    (texts : List (List ℕ)) (p : Program) → IsWellFormed p → IsFit rows texts p → ((m : ℕ) → (meaning p m).end ≢ wrong)
    → (heap stack : ℕ) → stack < 2 ^ 32 → length (constants_of rows texts p) + heap < 2 ^ 31
    → SameRuns (text_of texts) (meaning p) (run_of (image_of rows texts p) heap stack)

-- a primitive has at most twenty instructions, and four as a test
abbrev pub RowsAreShort : Type 0
RowsAreShort = (k : Operands) (p : BasisPrimitive) → (rows.size k p ≤ 20) × (rows.test_size k p ≤ 4)

-- at most ten instructions a node, primitives among them; eleven a part of the types, and four a member of a set of closures
abbrev pub ImagesAreShort : Type 0
ImagesAreShort =
    (texts : List (List ℕ)) (p : Program)
    → length (code_of rows texts p) ≤ 10 + 10 * nodes_funs p.funs + 11 * shapes_nodes p.tables.types + 4 * sets_nodes p.tables.sets
