-- What a node of the code's tree stands for.
use Rattle.std.proofs.Common.{◌≡◌, ℕ, map, Vec, Box, Global, Option, sym, ap, ◌∙◌}
use Rattle.std.specs.Option.{option_map}
use Rattle.ir_plain.specs.Kind.{Kind}
use Rattle.ir_plain.specs.Tree as clean
use Rattle.plain_tree.specs.declared.tree.Parameter.{Parameter}
use Rattle.plain_tree.specs.declared.tree.Binding.{Binding}
use Rattle.plain_tree.specs.declared.tree.Case.{Case}
use Rattle.plain_tree.specs.declared.tree.Exception.{Exception}
use Rattle.plain_tree.specs.declared.tree.Operation.{Operation}
use Rattle.plain_tree.specs.declared.tree.Exp.{Exp, Exp-F, fold-roll-Exp}
use Rattle.plain_tree.specs.declared.tree.Exp.TheVariants as exp
use Rattle.plain_tree.specs.declared.tree.Step.{Step, Step-F, fold-roll-Step}
use Rattle.plain_tree.specs.declared.tree.Step.TheVariants as step
use Rattle.plain_tree.specs.declared.tree.Arm.{Arm, fold_out-Arm}
use Rattle.plain_tree.specs.declared.tree.Function.{Function, fold_out-Function}
use Rattle.plain_tree.specs.TreeOf.{Reading, StepTree, ArmTree, FunctionTree, exception_step, name_step, rec_step, test_step, counted_step, onto, firsts, arms_of, funs_of, fun_of, let_of, case_of, exception_of, operation_of, tree_of, step_of, arm_of, function_of, node_exp, node_step, node_arm, node_function}

module _ {F : Kind} (R : Reading F) where
  pub tree-steps : (ss : Vec Step Global) (e : Box Exp Global) → tree_of R (exp.Steps ss e) ≡ onto (map (step_of R) ss.items) (tree_of R e.value)
  tree-steps ss e = ap (tree_of R) (sym (exp.rolls-Steps ss e)) ∙ fold-roll-Exp (clean.Exp F) (StepTree F) (ArmTree F) (FunctionTree F) (node_exp R) (node_step R) (node_arm R) (node_function R) (Exp-F.Steps ss e)

  pub tree-ret : (a : ℕ) → tree_of R (exp.Ret a) ≡ clean.ret (R.atom a)
  tree-ret a = ap (tree_of R) (sym (exp.rolls-Ret a)) ∙ fold-roll-Exp (clean.Exp F) (StepTree F) (ArmTree F) (FunctionTree F) (node_exp R) (node_step R) (node_arm R) (node_function R) (Exp-F.Ret a)

  pub tree-switch : (a u : ℕ) (arms : Vec Arm Global) → tree_of R (exp.Switch a u arms) ≡ clean.switch (R.atom a) (R.type u) (arms_of (map (arm_of R) arms.items))
  tree-switch a u arms = ap (tree_of R) (sym (exp.rolls-Switch a u arms)) ∙ fold-roll-Exp (clean.Exp F) (StepTree F) (ArmTree F) (FunctionTree F) (node_exp R) (node_step R) (node_arm R) (node_function R) (Exp-F.Switch a u arms)

  pub tree-first : (es : Vec Exp Global) (d : Box Exp Global) → tree_of R (exp.First es d) ≡ firsts (map (tree_of R) es.items) (tree_of R d.value)
  tree-first es d = ap (tree_of R) (sym (exp.rolls-First es d)) ∙ fold-roll-Exp (clean.Exp F) (StepTree F) (ArmTree F) (FunctionTree F) (node_exp R) (node_step R) (node_arm R) (node_function R) (Exp-F.First es d)

  pub tree-miss : tree_of R exp.Miss ≡ clean.miss
  tree-miss = ap (tree_of R) (sym exp.rolls-Miss) ∙ fold-roll-Exp (clean.Exp F) (StepTree F) (ArmTree F) (FunctionTree F) (node_exp R) (node_step R) (node_arm R) (node_function R) Exp-F.Miss

  pub step-let : (b : Binding) (o : Operation) → step_of R (step.Let b o) ≡ let_of R b (operation_of R o)
  step-let b o = ap (step_of R) (sym (step.rolls-Let b o)) ∙ fold-roll-Step (clean.Exp F) (StepTree F) (ArmTree F) (FunctionTree F) (node_exp R) (node_step R) (node_arm R) (node_function R) (Step-F.Let b o)

  pub step-fn : (b : Binding) (xs : Vec Parameter Global) (x : Parameter) (e : Box Exp Global) → step_of R (step.Fn b xs x e) ≡ let_of R b (clean.fn (fun_of R xs.items x (tree_of R e.value)))
  step-fn b xs x e = ap (step_of R) (sym (step.rolls-Fn b xs x e)) ∙ fold-roll-Step (clean.Exp F) (StepTree F) (ArmTree F) (FunctionTree F) (node_exp R) (node_step R) (node_arm R) (node_function R) (Step-F.Fn b xs x e)

  pub step-block : (b : Binding) (e : Box Exp Global) → step_of R (step.Block b e) ≡ let_of R b (clean.block (tree_of R e.value))
  step-block b e = ap (step_of R) (sym (step.rolls-Block b e)) ∙ fold-roll-Step (clean.Exp F) (StepTree F) (ArmTree F) (FunctionTree F) (node_exp R) (node_step R) (node_arm R) (node_function R) (Step-F.Block b e)

  pub step-handle : (b : Binding) (e : Box Exp Global) (x : ℕ) (h : Box Exp Global) → step_of R (step.Handle b e x h) ≡ let_of R b (clean.handle (tree_of R e.value) (R.binder x) (tree_of R h.value))
  step-handle b e x h = ap (step_of R) (sym (step.rolls-Handle b e x h)) ∙ fold-roll-Step (clean.Exp F) (StepTree F) (ArmTree F) (FunctionTree F) (node_exp R) (node_step R) (node_arm R) (node_function R) (Step-F.Handle b e x h)

  pub step-exception : (x i : ℕ) (a : Option ℕ) → step_of R (step.Exception x i a) ≡ exception_step (R.binder x) i (option_map R.type a)
  step-exception x i a = ap (step_of R) (sym (step.rolls-Exception x i a)) ∙ fold-roll-Step (clean.Exp F) (StepTree F) (ArmTree F) (FunctionTree F) (node_exp R) (node_step R) (node_arm R) (node_function R) (Step-F.Exception x i a)

  pub step-name : (x : ℕ) (y : Exception) → step_of R (step.Name x y) ≡ name_step (R.binder x) (exception_of R y)
  step-name x y = ap (step_of R) (sym (step.rolls-Name x y)) ∙ fold-roll-Step (clean.Exp F) (StepTree F) (ArmTree F) (FunctionTree F) (node_exp R) (node_step R) (node_arm R) (node_function R) (Step-F.Name x y)

  pub step-group : (ps : ℕ) (fs : Vec Function Global) → step_of R (step.Group ps fs) ≡ rec_step (R.parameters ps) (funs_of (map (function_of R) fs.items))
  step-group ps fs = ap (step_of R) (sym (step.rolls-Group ps fs)) ∙ fold-roll-Step (clean.Exp F) (StepTree F) (ArmTree F) (FunctionTree F) (node_exp R) (node_step R) (node_arm R) (node_function R) (Step-F.Group ps fs)

  pub step-test : (a u : ℕ) (c : Case) (others : Vec Arm Global) → step_of R (step.Test a u c others) ≡ test_step (R.atom a) (R.type u) (case_of R c) (arms_of (map (arm_of R) others.items))
  step-test a u c others = ap (step_of R) (sym (step.rolls-Test a u c others)) ∙ fold-roll-Step (clean.Exp F) (StepTree F) (ArmTree F) (FunctionTree F) (node_exp R) (node_step R) (node_arm R) (node_function R) (Step-F.Test a u c others)

  pub step-counted : (n : ℕ) → step_of R (step.Counted n) ≡ counted_step n
  step-counted n = ap (step_of R) (sym (step.rolls-Counted n)) ∙ fold-roll-Step (clean.Exp F) (StepTree F) (ArmTree F) (FunctionTree F) (node_exp R) (node_step R) (node_arm R) (node_function R) (Step-F.Counted n)

  pub arm-parts : (a : Arm) → arm_of R a ≡ record { case = case_of R a.case; body = tree_of R a.body }
  arm-parts = fold_out-Arm (clean.Exp F) (StepTree F) (ArmTree F) (FunctionTree F) (node_exp R) (node_step R) (node_arm R) (node_function R)

  pub function-parts : (f : Function) → function_of R f ≡ record { variable = R.binder f.variable; type = R.type f.ty; function = fun_of R f.parameters.items f.last (tree_of R f.body) }
  function-parts = fold_out-Function (clean.Exp F) (StepTree F) (ArmTree F) (FunctionTree F) (node_exp R) (node_step R) (node_arm R) (node_function R)
