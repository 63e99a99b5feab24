-- Exceptions that a walk finds, in any order.
use Rattle.std.specs.Prelude.{◌≡◌, ℕ, List, [], ◌∷◌, ◌++◌, ◌||◌}
use Rattle.first_tables.specs.Exceptions.{made_by}
use Rattle.ssa_tree.specs.TreeOf.{StepTree, ArmTree, plain_step, make_step, call_step, attempt_step, turn_step, label_step, again_step, when_step, unless_step, case_step}
use Rattle.ssa_tree.specs.Exceptions.{makes, bodies_make}
use Rattle.image_law.specs.ImageOf.{has}

-- what was there and these are there now
abbrev pub Adds : List ℕ → List ℕ → List ℕ → Type 0
Adds old made new = (i : ℕ) → has new i ≡ (has old i || has made i)

-- what a step makes beside the rest of the body
abbrev pub step_makes : StepTree → List ℕ
step_makes (plain_step p xs x) = made_by p
step_makes (make_step t ps x) = []
step_makes (call_step p c xs x) = []
step_makes (attempt_step k p xs x d) = makes d
step_makes (turn_step p) = []
step_makes (label_step xs d) = makes d
step_makes (again_step xs d) = makes d
step_makes (when_step q xs d) = makes d
step_makes (unless_step q xs d) = makes d
step_makes (case_step x i others) = bodies_make others

abbrev pub steps_make : List StepTree → List ℕ
steps_make [] = []
steps_make (g ∷ gs) = step_makes g ++ steps_make gs

abbrev pub arms_make : List ArmTree → List ℕ
arms_make [] = []
arms_make (a ∷ arms) = makes a.body ++ arms_make arms
