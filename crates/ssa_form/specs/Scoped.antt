-- What well formed says of one step, and of steps in a row.
use Rattle.std.specs.Prelude.{◌≡◌, ℕ, Bool, true, false, List, [], ◌∷◌, ◌++◌, length, Some, slice_get, ⊤}
use Rattle.first_values.specs.Operations.{Tables}
use Rattle.first_values.specs.WellFormed.{IsIn, AreIn, PiecesIn, IsPlain, IsTest, IsCallee}
use Rattle.ssa_tree.specs.TreeOf.{StepTree, ArmTree}
use Rattle.ssa_tree.specs.TreeOf.{plain_step, make_step, call_step, attempt_step, turn_step, label_step, again_step, when_step, unless_step, case_step}
use Rattle.ir_ssa.specs.Tree.{Fun, Body}
use Rattle.ir_ssa.specs.WellFormed.{Label, IsScoped, AllScoped}

-- what a step binds in what follows
abbrev pub bound_by : StepTree → List ℕ
bound_by (plain_step p ys x) = x ∷ []
bound_by (make_step t ps x) = x ∷ []
bound_by (call_step p c ys x) = x ∷ []
bound_by (attempt_step k p ys x d) = x ∷ []
bound_by (turn_step p) = []
bound_by (label_step params d) = params
bound_by (again_step params d) = params
bound_by (when_step q ys d) = []
bound_by (unless_step q ys d) = []
bound_by (case_step x i others) = []

-- the labels that a step brings into what follows
abbrev pub labels_by : StepTree → List Label
labels_by (plain_step p ys x) = []
labels_by (make_step t ps x) = []
labels_by (call_step p c ys x) = []
labels_by (attempt_step k p ys x d) = []
labels_by (turn_step p) = []
labels_by (label_step params d) = []
labels_by (again_step params d) = record { takes = length params; loops = true } ∷ []
labels_by (when_step q ys d) = []
labels_by (unless_step q ys d) = []
labels_by (case_step x i others) = []

-- what is in scope after steps
abbrev pub after : List StepTree → List ℕ → List ℕ
after [] xs = xs
after (s ∷ ss) xs = after ss (bound_by s ++ xs)

abbrev pub labels_after : List StepTree → List Label → List Label
labels_after [] ls = ls
labels_after (s ∷ ss) ls = labels_after ss (labels_by s ++ ls)

module _ (T : Tables) (arities : List ℕ) where
  abbrev pub StepScoped : List ℕ → List Label → Bool → StepTree → Type 0
  StepScoped xs ls g (plain_step p ys x) = IsPlain T p (length ys) × AreIn xs ys
  StepScoped xs ls g (make_step t ps x) = PiecesIn xs ps
  StepScoped xs ls g (call_step p c ys x) = IsCallee T arities xs c (length ys) × AreIn xs ys
  StepScoped xs ls g (attempt_step k p ys x d) = AreIn xs ys × IsScoped T arities (x ∷ xs) ls g d
  StepScoped xs ls g (turn_step p) = ⊤
  StepScoped xs ls g (label_step params d) = IsScoped T arities xs (record { takes = length params; loops = false } ∷ ls) g d
  StepScoped xs ls g (again_step params d) = IsScoped T arities xs (record { takes = length params; loops = true } ∷ ls) g d
  StepScoped xs ls g (when_step q ys d) = (IsTest T q (length ys) × AreIn xs ys) × IsScoped T arities xs ls g d
  StepScoped xs ls g (unless_step q ys d) = (IsTest T q (length ys) × AreIn xs ys) × IsScoped T arities xs ls g d
  StepScoped xs ls g (case_step x i others) = IsIn xs x × AllScoped T arities xs ls g others

  abbrev pub StepsScoped : List ℕ → List Label → Bool → List StepTree → Type 0
  StepsScoped xs ls g [] = ⊤
  StepsScoped xs ls g (s ∷ ss) = StepScoped xs ls g s × StepsScoped (bound_by s ++ xs) (labels_by s ++ ls) g ss

  abbrev pub FunScoped : Fun → Type 0
  FunScoped h = IsScoped T arities h.params [] false h.body

  abbrev pub ArmScoped : List ℕ → List Label → Bool → ArmTree → Type 0
  ArmScoped xs ls g a = IsScoped T arities xs ls g a.body

  -- under a handler, with the label of this number alone
  abbrev pub GuardScoped : List ℕ → List Label → ℕ → Body → Type 0
  GuardScoped xs ls l b = (label_of : Label) × (slice_get ls l ≡ Some label_of) × IsScoped T arities xs (label_of ∷ []) true b

-- a list with more behind it
abbrev pub Grew : {A : Type 0} → List A → List A → Type 0
Grew {A = A} old new = (more : List A) × (new ≡ old ++ more)
