-- What a node of the code's tree stands for.
use Rattle.std.proofs.Common.{◌≡◌, ℕ, List, map, Vec, Box, Global, Option, sym, ap, ◌∙◌}
use Rattle.std.specs.Option.{option_map}
use Rattle.ir_plain.specs.Kind.{Kind}
use Rattle.ir_plain.specs.Tree as clean
use Rattle.plain_tree.specs.declared.tree.Parameter.{Parameter}
use Rattle.plain_tree.specs.declared.tree.Binding.{Binding}
use Rattle.plain_tree.specs.declared.tree.Case.{Case}
use Rattle.plain_tree.specs.declared.tree.Exception.{Exception}
use Rattle.plain_tree.specs.declared.tree.Operation.{Operation}
use Rattle.plain_tree.specs.declared.tree.Exp.{Exp, Exp-F, fold-roll-Exp}
use Rattle.plain_tree.specs.declared.tree.Exp.TheVariants as exp
use Rattle.plain_tree.specs.declared.tree.Step.{Step, Step-F, fold-roll-Step}
use Rattle.plain_tree.specs.declared.tree.Step.TheVariants as step
use Rattle.plain_tree.specs.declared.tree.Arm.{Arm, fold_out-Arm}
use Rattle.plain_tree.specs.declared.tree.Function.{Function, fold_out-Function}
use Rattle.plain_tree.specs.TreeOf.{Reading, StepTree, ArmTree, FunctionTree, exception_step, name_step, rec_step, test_step, counted_step, onto, firsts, arms_of, funs_of, fun_of, let_of, case_of, exception_of, operation_of, tree_of, step_of, arm_of, function_of, node_exp, node_step, node_arm, node_function}

module _ {F : Kind} (R : Reading F) where
  pub tree-steps : (ss : Vec Step Global) (e : Box Exp Global) → tree_of R (exp.Steps ss e) ≡ onto (map (step_of R) ss.items) (tree_of R e.value)
  tree-steps ss e = ap (tree_of R) (sym (exp.rolls-Steps ss e)) ∙ fold-roll-Exp (clean.Exp F) (StepTree F) (ArmTree F) (FunctionTree F) (node_exp R) (node_step R) (node_arm R) (node_function R) (Exp-F.Steps ss e)

  pub tree-ret : (a : ℕ) → tree_of R (exp.Ret a) ≡ clean.ret (R.atom a)
  tree-ret a = ap (tree_of R) (sym (exp.rolls-Ret a)) ∙ fold-roll-Exp (clean.Exp F) (StepTree F) (ArmTree F) (FunctionTree F) (node_exp R) (node_step R) (node_arm R) (node_function R) (Exp-F.Ret a)

  pub tree-switch : (a u : ℕ) (arms : Vec Arm Global) → tree_of R (exp.Switch a u arms) ≡ clean.switch (R.atom a) (R.type u) (arms_of (map (arm_of R) arms.items))
  tree-switch a u arms = ap (tree_of R) (sym (exp.rolls-Switch a u arms)) ∙ fold-roll-Exp (clean.Exp F) (StepTree F) (ArmTree F) (FunctionTree F) (node_exp R) (node_step R) (node_arm R) (node_function R) (Exp-F.Switch a u arms)

  pub tree-first : (es : Vec Exp Global) (d : Box Exp Global) → tree_of R (exp.First es d) ≡ firsts (map (tree_of R) es.items) (tree_of R d.value)
  tree-first es d = ap (tree_of R) (sym (exp.rolls-First es d)) ∙ fold-roll-Exp (clean.Exp F) (StepTree F) (ArmTree F) (FunctionTree F) (node_exp R) (node_step R) (node_arm R) (node_function R) (Exp-F.First es d)

  pub tree-miss : tree_of R exp.Miss ≡ clean.miss
  tree-miss = ap (tree_of R) (sym exp.rolls-Miss) ∙ fold-roll-Exp (clean.Exp F) (StepTree F) (ArmTree F) (FunctionTree F) (node_exp R) (node_step R) (node_arm R) (node_function R) Exp-F.Miss

  pub step-let : (b : Binding) (o : Operation) → step_of R (step.Let b o) ≡ let_of R b (operation_of R o)
  step-let b o = ap (step_of R) (sym (step.rolls-Let b o)) ∙ fold-roll-Step (clean.Exp F) (StepTree F) (ArmTree F) (FunctionTree F) (node_exp R) (node_step R) (node_arm R) (node_function R) (Step-F.Let b o)

  pub step-fn : (b : Binding) (xs : Vec Parameter Global) (x : Parameter) (e : Box Exp Global) → step_of R (step.Fn b xs x e) ≡ let_of R b (clean.fn (fun_of R xs.items x (tree_of R e.value)))
  step-fn b xs x e = ap (step_of R) (sym (step.rolls-Fn b xs x e)) ∙ fold-roll-Step (clean.Exp F) (StepTree F) (ArmTree F) (FunctionTree F) (node_exp R) (node_step R) (node_arm R) (node_function R) (Step-F.Fn b xs x e)

  pub step-block : (b : Binding) (e : Box Exp Global) → step_of R (step.Block b e) ≡ let_of R b (clean.block (tree_of R e.value))
  step-block b e = ap (step_of R) (sym (step.rolls-Block b e)) ∙ fold-roll-Step (clean.Exp F) (StepTree F) (ArmTree F) (FunctionTree F) (node_exp R) (node_step R) (node_arm R) (node_function R) (Step-F.Block b e)

  pub step-handle : (b : Binding) (e : Box Exp Global) (x : ℕ) (h : Box Exp Global) → step_of R (step.Handle b e x h) ≡ let_of R b (clean.handle (tree_of R e.value) (R.binder x) (tree_of R h.value))
  step-handle b e x h = ap (step_of R) (sym (step.rolls-Handle b e x h)) ∙ fold-roll-Step (clean.Exp F) (StepTree F) (ArmTree F) (FunctionTree F) (node_exp R) (node_step R) (node_arm R) (node_function R) (Step-F.Handle b e x h)

  pub step-exception : (x i : ℕ) (a : Option ℕ) → step_of R (step.Exception x i a) ≡ exception_step (R.binder x) i (option_map R.type a)
  step-exception x i a = ap (step_of R) (sym (step.rolls-Exception x i a)) ∙ fold-roll-Step (clean.Exp F) (StepTree F) (ArmTree F) (FunctionTree F) (node_exp R) (node_step R) (node_arm R) (node_function R) (Step-F.Exception x i a)

  pub step-name : (x : ℕ) (y : Exception) → step_of R (step.Name x y) ≡ name_step (R.binder x) (exception_of R y)
  step-name x y = ap (step_of R) (sym (step.rolls-Name x y)) ∙ fold-roll-Step (clean.Exp F) (StepTree F) (ArmTree F) (FunctionTree F) (node_exp R) (node_step R) (node_arm R) (node_function R) (Step-F.Name x y)

  pub step-group : (ps : ℕ) (fs : Vec Function Global) → step_of R (step.Group ps fs) ≡ rec_step (R.parameters ps) (funs_of (map (function_of R) fs.items))
  step-group ps fs = ap (step_of R) (sym (step.rolls-Group ps fs)) ∙ fold-roll-Step (clean.Exp F) (StepTree F) (ArmTree F) (FunctionTree F) (node_exp R) (node_step R) (node_arm R) (node_function R) (Step-F.Group ps fs)

  pub step-test : (a u : ℕ) (c : Case) (others : Vec Arm Global) → step_of R (step.Test a u c others) ≡ test_step (R.atom a) (R.type u) (case_of R c) (arms_of (map (arm_of R) others.items))
  step-test a u c others = ap (step_of R) (sym (step.rolls-Test a u c others)) ∙ fold-roll-Step (clean.Exp F) (StepTree F) (ArmTree F) (FunctionTree F) (node_exp R) (node_step R) (node_arm R) (node_function R) (Step-F.Test a u c others)

  pub step-counted : (n : ℕ) → step_of R (step.Counted n) ≡ counted_step n
  step-counted n = ap (step_of R) (sym (step.rolls-Counted n)) ∙ fold-roll-Step (clean.Exp F) (StepTree F) (ArmTree F) (FunctionTree F) (node_exp R) (node_step R) (node_arm R) (node_function R) (Step-F.Counted n)

  pub arm-parts : (a : Arm) → arm_of R a ≡ record { case = case_of R a.case; body = tree_of R a.body }
  arm-parts = fold_out-Arm (clean.Exp F) (StepTree F) (ArmTree F) (FunctionTree F) (node_exp R) (node_step R) (node_arm R) (node_function R)

  pub function-parts : (f : Function) → function_of R f ≡ record { variable = R.binder f.variable; type = R.type f.ty; function = fun_of R f.parameters.items f.last (tree_of R f.body) }
  function-parts = fold_out-Function (clean.Exp F) (StepTree F) (ArmTree F) (FunctionTree F) (node_exp R) (node_step R) (node_arm R) (node_function R)

  -- the same, where the code has looked at the node and at what its parts point to

  pub steps-are : (e : Exp) (ss : Vec Step Global) (r : Box Exp Global) (ls : List Step) (d : Exp) → e ≡ exp.Steps ss r → ls ≡ ss.items → d ≡ r.value → tree_of R e ≡ onto (map (step_of R) ls) (tree_of R d)
  steps-are e ss r ls d i j k =
      ap (tree_of R) i ∙ tree-steps ss r ∙ ap (λ l. onto (map (step_of R) l) (tree_of R r.value)) (sym j) ∙ ap (λ x. onto (map (step_of R) ls) (tree_of R x)) (sym k)

  pub ret-is : (e : Exp) (a : ℕ) → e ≡ exp.Ret a → tree_of R e ≡ clean.ret (R.atom a)
  ret-is e a i = ap (tree_of R) i ∙ tree-ret a

  pub switch-is : (e : Exp) (a u : ℕ) (arms : Vec Arm Global) (ls : List Arm) → e ≡ exp.Switch a u arms → ls ≡ arms.items → tree_of R e ≡ clean.switch (R.atom a) (R.type u) (arms_of (map (arm_of R) ls))
  switch-is e a u arms ls i j = ap (tree_of R) i ∙ tree-switch a u arms ∙ ap (λ l. clean.switch (R.atom a) (R.type u) (arms_of (map (arm_of R) l))) (sym j)

  pub first-is : (e : Exp) (es : Vec Exp Global) (r : Box Exp Global) (ls : List Exp) (d : Exp) → e ≡ exp.First es r → ls ≡ es.items → d ≡ r.value → tree_of R e ≡ firsts (map (tree_of R) ls) (tree_of R d)
  first-is e es r ls d i j k =
      ap (tree_of R) i ∙ tree-first es r ∙ ap (λ l. firsts (map (tree_of R) l) (tree_of R r.value)) (sym j) ∙ ap (λ x. firsts (map (tree_of R) ls) (tree_of R x)) (sym k)

  pub miss-is : (e : Exp) → e ≡ exp.Miss → tree_of R e ≡ clean.miss
  miss-is e i = ap (tree_of R) i ∙ tree-miss

  pub let-is : (s : Step) (b : Binding) (o : Operation) → s ≡ step.Let b o → step_of R s ≡ let_of R b (operation_of R o)
  let-is s b o i = ap (step_of R) i ∙ step-let b o

  pub fn-is : (s : Step) (b : Binding) (xs : Vec Parameter Global) (x : Parameter) (e : Box Exp Global) (ls : List Parameter) (d : Exp) → s ≡ step.Fn b xs x e → ls ≡ xs.items → d ≡ e.value
      → step_of R s ≡ let_of R b (clean.fn (fun_of R ls x (tree_of R d)))
  fn-is s b xs x e ls d i j k =
      ap (step_of R) i ∙ step-fn b xs x e ∙ ap (λ l. let_of R b (clean.fn (fun_of R l x (tree_of R e.value)))) (sym j) ∙ ap (λ d. let_of R b (clean.fn (fun_of R ls x (tree_of R d)))) (sym k)

  pub block-is : (s : Step) (b : Binding) (e : Box Exp Global) (d : Exp) → s ≡ step.Block b e → d ≡ e.value → step_of R s ≡ let_of R b (clean.block (tree_of R d))
  block-is s b e d i k = ap (step_of R) i ∙ step-block b e ∙ ap (λ d. let_of R b (clean.block (tree_of R d))) (sym k)

  pub handle-is : (s : Step) (b : Binding) (e h : Box Exp Global) (x : ℕ) (d g : Exp) → s ≡ step.Handle b e x h → d ≡ e.value → g ≡ h.value → step_of R s ≡ let_of R b (clean.handle (tree_of R d) (R.binder x) (tree_of R g))
  handle-is s b e h x d g i j k =
      ap (step_of R) i ∙ step-handle b e x h ∙ ap (λ d. let_of R b (clean.handle (tree_of R d) (R.binder x) (tree_of R h.value))) (sym j) ∙ ap (λ g. let_of R b (clean.handle (tree_of R d) (R.binder x) (tree_of R g))) (sym k)

  pub exception-is : (s : Step) (x n : ℕ) (a : Option ℕ) → s ≡ step.Exception x n a → step_of R s ≡ exception_step (R.binder x) n (option_map R.type a)
  exception-is s x n a i = ap (step_of R) i ∙ step-exception x n a

  pub name-is : (s : Step) (x : ℕ) (y : Exception) → s ≡ step.Name x y → step_of R s ≡ name_step (R.binder x) (exception_of R y)
  name-is s x y i = ap (step_of R) i ∙ step-name x y

  pub group-is : (s : Step) (ps : ℕ) (fs : Vec Function Global) (ls : List Function) → s ≡ step.Group ps fs → ls ≡ fs.items → step_of R s ≡ rec_step (R.parameters ps) (funs_of (map (function_of R) ls))
  group-is s ps fs ls i j = ap (step_of R) i ∙ step-group ps fs ∙ ap (λ l. rec_step (R.parameters ps) (funs_of (map (function_of R) l))) (sym j)

  pub test-is : (s : Step) (a u : ℕ) (c : Case) (others : Vec Arm Global) (ls : List Arm) → s ≡ step.Test a u c others → ls ≡ others.items → step_of R s ≡ test_step (R.atom a) (R.type u) (case_of R c) (arms_of (map (arm_of R) ls))
  test-is s a u c others ls i j = ap (step_of R) i ∙ step-test a u c others ∙ ap (λ l. test_step (R.atom a) (R.type u) (case_of R c) (arms_of (map (arm_of R) l))) (sym j)

  pub counted-is : (s : Step) (n : ℕ) → s ≡ step.Counted n → step_of R s ≡ counted_step n
  counted-is s n i = ap (step_of R) i ∙ step-counted n

  pub arm-case : (a : Arm) → (arm_of R a).case ≡ case_of R a.case
  arm-case a = ap (λ (x : ArmTree F). x.case) (arm-parts a)

  pub arm-body : (a : Arm) → (arm_of R a).body ≡ tree_of R a.body
  arm-body a = ap (λ (x : ArmTree F). x.body) (arm-parts a)

  pub function-is : (f : Function) (ls : List Parameter) → ls ≡ f.parameters.items → (function_of R f).function ≡ fun_of R ls f.last (tree_of R f.body)
  function-is f ls j = ap (λ (x : FunctionTree F). x.function) (function-parts f) ∙ ap (λ l. fun_of R l f.last (tree_of R f.body)) (sym j)
