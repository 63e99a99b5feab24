-- What a step binds for what follows it, by the kind of step.
use Rattle.std.proofs.Common.{◌≡◌, ℕ, List, [], ◌∷◌, ◌++◌, map, Vec, Box, Global, sym, ap, subst, ◌∙◌}
use Rattle.plain_tree.specs.declared.tree.Parameter.{Parameter}
use Rattle.plain_tree.specs.declared.tree.Binding.{Binding}
use Rattle.plain_tree.specs.declared.tree.Case.{Case}
use Rattle.plain_tree.specs.declared.tree.Exp.{Exp}
use Rattle.plain_tree.specs.declared.tree.Step.{Step, Step-F, fold-roll-Step}
use Rattle.plain_tree.specs.declared.tree.Step.TheVariants as step
use Rattle.plain_tree.specs.declared.tree.Arm.{Arm}
use Rattle.plain_tree.specs.declared.tree.Function.{Function}
use Rattle.closure_convert.specs.Scope.{names}
use Rattle.capture_scope.specs.Repeats.{Repeats}
use Rattle.capture_table.specs.Told.{Told, StepTold, FunctionTold, node_exp, node_step, node_arm, node_function, case_binds, members_told, step_told, function_told}

module _ (vs : List ℕ) (s : Step) where
  binds-are : (xs ys : List ℕ) → (step_told s).binds ≡ xs → ys ≡ xs → Repeats (vs ++ ys) → Repeats (vs ++ (step_told s).binds)
  binds-are xs ys e f = subst (λ l. Repeats (vs ++ l)) (f ∙ sym e)

  pub fn-binds : (b : Binding) (ps : Vec Parameter Global) (x : Parameter) (e : Box Exp Global) (y : ℕ) → s ≡ step.Fn b ps x e → y ≡ b.variable → Repeats (vs ++ y ∷ []) → Repeats (vs ++ (step_told s).binds)
  fn-binds b ps x e y is v =
      binds-are (b.variable ∷ []) (y ∷ [])
      (ap (λ (t : StepTold). t.binds) (ap step_told (is ∙ sym (step.rolls-Fn b ps x e)) ∙ fold-roll-Step Told StepTold Told FunctionTold node_exp node_step node_arm node_function (Step-F.Fn b ps x e))) (ap (λ z. z ∷ []) v)

  pub block-binds : (b : Binding) (e : Box Exp Global) (y : ℕ) → s ≡ step.Block b e → y ≡ b.variable → Repeats (vs ++ y ∷ []) → Repeats (vs ++ (step_told s).binds)
  block-binds b e y is v =
      binds-are (b.variable ∷ []) (y ∷ [])
      (ap (λ (t : StepTold). t.binds) (ap step_told (is ∙ sym (step.rolls-Block b e)) ∙ fold-roll-Step Told StepTold Told FunctionTold node_exp node_step node_arm node_function (Step-F.Block b e))) (ap (λ z. z ∷ []) v)

  pub handle-binds : (b : Binding) (e : Box Exp Global) (x : ℕ) (h : Box Exp Global) (y : ℕ) → s ≡ step.Handle b e x h → y ≡ b.variable → Repeats (vs ++ y ∷ []) → Repeats (vs ++ (step_told s).binds)
  handle-binds b e x h y is v =
      binds-are (b.variable ∷ []) (y ∷ [])
      (ap (λ (t : StepTold). t.binds) (ap step_told (is ∙ sym (step.rolls-Handle b e x h)) ∙ fold-roll-Step Told StepTold Told FunctionTold node_exp node_step node_arm node_function (Step-F.Handle b e x h))) (ap (λ z. z ∷ []) v)

  pub group-binds : (n : ℕ) (fs : Vec Function Global) (ys : List ℕ) → s ≡ step.Group n fs → ys ≡ names (members_told (map function_told fs.items)) → Repeats (vs ++ ys) → Repeats (vs ++ (step_told s).binds)
  group-binds n fs ys is v =
      binds-are (names (members_told (map function_told fs.items))) ys
      (ap (λ (t : StepTold). t.binds) (ap step_told (is ∙ sym (step.rolls-Group n fs)) ∙ fold-roll-Step Told StepTold Told FunctionTold node_exp node_step node_arm node_function (Step-F.Group n fs))) v

  pub test-binds : (a u : ℕ) (c : Case) (others : Vec Arm Global) (ys : List ℕ) → s ≡ step.Test a u c others → ys ≡ case_binds c → Repeats (vs ++ ys) → Repeats (vs ++ (step_told s).binds)
  test-binds a u c others ys is v =
      binds-are (case_binds c) ys
      (ap (λ (t : StepTold). t.binds) (ap step_told (is ∙ sym (step.rolls-Test a u c others)) ∙ fold-roll-Step Told StepTold Told FunctionTold node_exp node_step node_arm node_function (Step-F.Test a u c others))) v
