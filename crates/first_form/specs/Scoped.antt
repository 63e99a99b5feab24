-- What well formed says of one step, and of steps in a row.
use Rattle.std.specs.Prelude.{ℕ, Bool, true, false, ◌||◌, List, [], ◌∷◌, ◌++◌, length, ⊤}
use Rattle.first_values.specs.Operations.{Tables}
use Rattle.first_values.specs.WellFormed.{IsIn, AreIn, IsTest}
use Rattle.first_tree.specs.TreeOf.{StepTree, let_step, turn_step, try_step, when_step, unless_step, case_step}
use Rattle.ir_first.specs.Tree.{Fun}
use Rattle.ir_first.specs.WellFormed.{IsScoped, OpScoped, ArmsScoped}
use Rattle.ir_first.specs.Whole.{HasWhole, OpHasWhole, ArmsHaveWhole, may_miss}

-- what a step binds in what follows
abbrev pub bound_by : StepTree → List ℕ
bound_by (let_step x o) = x ∷ []
bound_by (turn_step p) = []
bound_by (try_step d) = []
bound_by (when_step q ys d) = []
bound_by (unless_step q ys d) = []
bound_by (case_step x i others) = []

-- what is in scope after steps
abbrev pub after : List StepTree → List ℕ → List ℕ
after [] xs = xs
after (s ∷ ss) xs = after ss (bound_by s ++ xs)

module _ (T : Tables) (arities : List ℕ) where
  abbrev pub StepScoped : List ℕ → StepTree → Type 0
  StepScoped xs (let_step x o) = OpScoped T arities xs o
  StepScoped xs (turn_step p) = ⊤
  StepScoped xs (try_step d) = IsScoped T arities xs d
  StepScoped xs (when_step q ys d) = (IsTest T q (length ys) × AreIn xs ys) × IsScoped T arities xs d
  StepScoped xs (unless_step q ys d) = (IsTest T q (length ys) × AreIn xs ys) × IsScoped T arities xs d
  StepScoped xs (case_step x i others) = IsIn xs x × ArmsScoped T arities xs others

  abbrev pub StepsScoped : List ℕ → List StepTree → Type 0
  StepsScoped xs [] = ⊤
  StepsScoped xs (s ∷ ss) = StepScoped xs s × StepsScoped (bound_by s ++ xs) ss

  abbrev pub FunScoped : Fun → Type 0
  FunScoped g = IsScoped T arities g.params g.body

abbrev pub StepHasWhole : StepTree → Type 0
StepHasWhole (let_step x o) = OpHasWhole o
StepHasWhole (turn_step p) = ⊤
StepHasWhole (try_step d) = HasWhole d
StepHasWhole (when_step q ys d) = HasWhole d
StepHasWhole (unless_step q ys d) = HasWhole d
StepHasWhole (case_step x i others) = ArmsHaveWhole others

abbrev pub StepsHaveWhole : List StepTree → Type 0
StepsHaveWhole [] = ⊤
StepsHaveWhole (s ∷ ss) = StepHasWhole s × StepsHaveWhole ss

-- whether the whole may miss by another way than the rest
abbrev pub step_may_miss : StepTree → Bool
step_may_miss (let_step x o) = false
step_may_miss (turn_step p) = false
step_may_miss (try_step d) = false
step_may_miss (when_step q ys d) = may_miss d
step_may_miss (unless_step q ys d) = may_miss d
step_may_miss (case_step x i others) = true

abbrev pub steps_may_miss : List StepTree → Bool
steps_may_miss [] = false
steps_may_miss (s ∷ ss) = step_may_miss s || steps_may_miss ss
