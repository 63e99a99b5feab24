-- What the image of a project's program does, the project does.
use Rattle.std.proofs.Common.{◌≡◌, ℕ, ◌+◌, ◌*◌, ◌^◌, ◌≤◌, List, length, ap, subst, ◌∙◌, arith}
use mathlib.Core.Path.{fun_ext}
use Rattle.sml_tree.specs.BareTree.{Decs}
use Rattle.core_rules.specs.Project.{Part, project_meaning}
use Rattle.ir_code.specs.Program as machine
use Rattle.ir_code.specs.Run.{run_of}
use Rattle.ir_poly.specs.ProgMeaning as prog
use Rattle.project_elab.specs.of_ir_prog.Programs.{body_in, meaning}
use Rattle.project_elab.specs.of_ir_prog.declared.program.Program.{Program}
use Rattle.same_runs.specs.SameRuns.{SameRuns}
use Rattle.machine_code.specs.Image.{text_of}
use Rattle.back_end.specs.of_match_pass.Typed.{IsWellTyped}
use Rattle.back_end.specs.Contract.{Does}
use Rattle.mlc_driver.specs.Parts.{IsProgramOver}
use Rattle.mlc_driver.specs.Same.{Same}

-- the names of the exceptions are those of the initial basis
pub means : (p : Program) (prelude : Decs) (parts : List Part) → IsWellTyped p → IsProgramOver prelude parts p → (m : ℕ) → meaning p m ≡ project_meaning prelude parts m
means p prelude parts well is m = ap (λ l. prog.run l (body_in p) m) well.initial ∙ is.same m

pub same_as : (names : List (List ℕ)) (p : Program) (image : machine.Program) → IsWellTyped p → length image.constants + 4 * length image.code ≤ 2 ^ 27 → Does names p image
    → (prelude : Decs) (parts : List Part) → IsProgramOver prelude parts p → Same names prelude parts image
same_as names p image well short does = λ prelude parts is heap stack least most low high.
    subst (λ f. SameRuns (text_of names) f (run_of image heap stack)) (fun_ext (means p prelude parts well is)) (does heap stack (omega (arith, high)) (omega (arith, most, short)))
