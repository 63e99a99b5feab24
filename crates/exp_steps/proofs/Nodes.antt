-- The clean steps and tests of each kind of node.
use Rattle.std.proofs.Common.{◌≡◌, ℕ, Option, map, Vec, Box, Global, sym, ap, ◌∙◌}
use Rattle.std.specs.Option.{option_map}
use Rattle.ir_plain.specs.Kind.{Kind}
use Rattle.ir_plain.specs.Tree as t
use Rattle.plain_tree.specs.TreeOf.{Reading, StepTree, ArmTree, FunctionTree, onto, firsts, funs_of, case_of, arm_of, step_of, tree_of, function_of, fun_of, let_of, exception_step, rec_step, counted_step, node_exp, node_step, node_arm, node_function}
use Rattle.plain_tree.specs.declared.tree.Binding.{Binding}
use Rattle.plain_tree.specs.declared.tree.Parameter.{Parameter}
use Rattle.plain_tree.specs.declared.tree.Arm.{Arm, fold_out-Arm}
use Rattle.plain_tree.specs.declared.tree.Function.{Function, fold_out-Function}
use Rattle.plain_tree.specs.declared.tree.Exp.{Exp, Exp-F, fold-roll-Exp}
use Rattle.plain_tree.specs.declared.tree.Exp.TheVariants.{Steps, Ret, First, rolls-Steps, rolls-Ret, rolls-First}
use Rattle.plain_tree.specs.declared.tree.Step.{Step, Step-F, fold-roll-Step}
use Rattle.plain_tree.specs.declared.tree.Step.TheVariants as steps
use Rattle.plain_tree.specs.declared.tree.Step.TheVariants.{rolls-Fn, rolls-Block, rolls-Handle, rolls-Exception, rolls-Group, rolls-Counted}

module _ {F : Kind} (R : Reading F) where
  pub step_of-Counted : (n : ℕ) → step_of R (steps.Counted n) ≡ counted_step n
  step_of-Counted n =
      ap (step_of R) (sym (rolls-Counted n)) ∙ fold-roll-Step (t.Exp F) (StepTree F) (ArmTree F) (FunctionTree F) (node_exp R) (node_step R) (node_arm R) (node_function R) (Step-F.Counted n)

  pub step_of-Block : (b : Binding) (e : Box Exp Global) → step_of R (steps.Block b e) ≡ let_of R b (t.block (tree_of R e.value))
  step_of-Block b e =
      ap (step_of R) (sym (rolls-Block b e)) ∙ fold-roll-Step (t.Exp F) (StepTree F) (ArmTree F) (FunctionTree F) (node_exp R) (node_step R) (node_arm R) (node_function R) (Step-F.Block b e)

  pub step_of-Fn : (b : Binding) (xs : Vec Parameter Global) (x : Parameter) (e : Box Exp Global) → step_of R (steps.Fn b xs x e) ≡ let_of R b (t.fn (fun_of R xs.items x (tree_of R e.value)))
  step_of-Fn b xs x e =
      ap (step_of R) (sym (rolls-Fn b xs x e)) ∙ fold-roll-Step (t.Exp F) (StepTree F) (ArmTree F) (FunctionTree F) (node_exp R) (node_step R) (node_arm R) (node_function R) (Step-F.Fn b xs x e)

  pub step_of-Handle : (b : Binding) (e : Box Exp Global) (x : ℕ) (h : Box Exp Global) → step_of R (steps.Handle b e x h) ≡ let_of R b (t.handle (tree_of R e.value) (R.binder x) (tree_of R h.value))
  step_of-Handle b e x h =
      ap (step_of R) (sym (rolls-Handle b e x h)) ∙ fold-roll-Step (t.Exp F) (StepTree F) (ArmTree F) (FunctionTree F) (node_exp R) (node_step R) (node_arm R) (node_function R) (Step-F.Handle b e x h)

  pub step_of-Exception : (x i : ℕ) (a : Option ℕ) → step_of R (steps.Exception x i a) ≡ exception_step (R.binder x) i (option_map R.type a)
  step_of-Exception x i a =
      ap (step_of R) (sym (rolls-Exception x i a)) ∙ fold-roll-Step (t.Exp F) (StepTree F) (ArmTree F) (FunctionTree F) (node_exp R) (node_step R) (node_arm R) (node_function R) (Step-F.Exception x i a)

  pub step_of-Group : (ps : ℕ) (fs : Vec Function Global) → step_of R (steps.Group ps fs) ≡ rec_step (R.parameters ps) (funs_of (map (function_of R) fs.items))
  step_of-Group ps fs =
      ap (step_of R) (sym (rolls-Group ps fs)) ∙ fold-roll-Step (t.Exp F) (StepTree F) (ArmTree F) (FunctionTree F) (node_exp R) (node_step R) (node_arm R) (node_function R) (Step-F.Group ps fs)

  pub tree_of-Ret : (a : ℕ) → tree_of R (Ret a) ≡ t.ret (R.atom a)
  tree_of-Ret a =
      ap (tree_of R) (sym (rolls-Ret a)) ∙ fold-roll-Exp (t.Exp F) (StepTree F) (ArmTree F) (FunctionTree F) (node_exp R) (node_step R) (node_arm R) (node_function R) (Exp-F.Ret a)

  pub tree_of-Steps : (ss : Vec Step Global) (e : Box Exp Global) → tree_of R (Steps ss e) ≡ onto (map (step_of R) ss.items) (tree_of R e.value)
  tree_of-Steps ss e =
      ap (tree_of R) (sym (rolls-Steps ss e)) ∙ fold-roll-Exp (t.Exp F) (StepTree F) (ArmTree F) (FunctionTree F) (node_exp R) (node_step R) (node_arm R) (node_function R) (Exp-F.Steps ss e)

  pub tree_of-First : (es : Vec Exp Global) (d : Box Exp Global) → tree_of R (First es d) ≡ firsts (map (tree_of R) es.items) (tree_of R d.value)
  tree_of-First es d =
      ap (tree_of R) (sym (rolls-First es d)) ∙ fold-roll-Exp (t.Exp F) (StepTree F) (ArmTree F) (FunctionTree F) (node_exp R) (node_step R) (node_arm R) (node_function R) (Exp-F.First es d)

  pub function_of-parts : (f : Function) → function_of R f ≡ record { variable = R.binder f.variable; type = R.type f.ty; function = fun_of R f.parameters.items f.last (tree_of R f.body) }
  function_of-parts = fold_out-Function (t.Exp F) (StepTree F) (ArmTree F) (FunctionTree F) (node_exp R) (node_step R) (node_arm R) (node_function R)

  pub arm_of-parts : (a : Arm) → arm_of R a ≡ record { case = case_of R a.case; body = tree_of R a.body }
  arm_of-parts = fold_out-Arm (t.Exp F) (StepTree F) (ArmTree F) (FunctionTree F) (node_exp R) (node_step R) (node_arm R) (node_function R)
