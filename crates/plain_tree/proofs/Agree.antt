-- What is summed up along the code's tree is what is summed up along its clean tree, under any reading.
use Rattle.std.proofs.Common.{◌≡◌, ℕ, ◌+◌, List, [], ◌∷◌, map, sum, refl, sym, ap, ◌∙◌, subst, arith}
use Rattle.std.proofs.lemmas.List.Sums.{sum_by-cons}
use Rattle.ir_tables.specs.of_ir_plain.Kind.{Kind}
use Rattle.ir_tables.specs.of_ir_plain.Tree as t
use Rattle.ir_tables.specs.of_ir_plain.Weight.{weight, arms_weight, op_weight, fun_weight, funs_weight}
use Rattle.plain_tree.specs.declared.tree.Parameter.{Parameter}
use Rattle.plain_tree.specs.declared.tree.Operation.{Operation}
use Rattle.plain_tree.specs.declared.tree.Operation.TheVariants as op
use Rattle.plain_tree.specs.declared.tree.Exp.{Exp, Exp-F}
use Rattle.plain_tree.specs.declared.tree.Exp.TheFolds.{fold-roll-Exp, fold-roll-Step, fold-roll-Arm, fold-roll-Function, map-Exp, map-Step, map-Arm, map-Function, ind-Exp}
use Rattle.plain_tree.specs.declared.tree.Exp.TheViews.{roll-Exp, roll-Step, roll-Arm, roll-Function}
use Rattle.plain_tree.specs.declared.tree.Step.{Step, Step-F}
use Rattle.plain_tree.specs.declared.tree.Arm.{Arm, Arm-F}
use Rattle.plain_tree.specs.declared.tree.Function.{Function, Function-F}
use Rattle.plain_tree.specs.TreeOf.{Reading, StepTree, ArmTree, FunctionTree, put, onto, firsts, arms_of, funs_of, fun_of, operation_of, tree_of, step_of, arm_of, function_of, node_exp, node_step, node_arm, node_function}
use Rattle.plain_tree.specs.Sums.{weight_of, step_weight, arm_weight, function_weight, node_weight, node_step_weight, node_arm_weight, node_function_weight}

sum-more : (n : ℕ) (ns : List ℕ) → sum (n ∷ ns) ≡ n + sum ns
sum-more n ns = sum_by-cons (λ x. x) n ns

module _ {F : Kind} (R : Reading F) where
  abbrev ExpAgrees : Exp → Type 0
  ExpAgrees e = weight (tree_of R e) ≡ weight_of e

  abbrev StepAgrees : Step → Type 0
  StepAgrees s = (e : t.Exp F) → weight (put (step_of R s) e) ≡ step_weight s + weight e

  abbrev ArmAgrees : Arm → Type 0
  ArmAgrees a = weight (arm_of R a).body ≡ arm_weight a

  abbrev FunctionAgrees : Function → Type 0
  FunctionAgrees f = fun_weight (function_of R f).function ≡ function_weight f

  steps-agree : (ss : List ((s : Step) × StepAgrees s)) (e : t.Exp F) → weight (onto (map (step_of R) (map (λ p. p.0) ss)) e) ≡ sum (map step_weight (map (λ p. p.0) ss)) + weight e
  steps-agree [] e = omega arith
  steps-agree ((s, h) ∷ ss) e = h (onto (map (step_of R) (map (λ p. p.0) ss)) e) ∙ (let r = steps-agree ss e in let q = sum-more (step_weight s) (map step_weight (map (λ p. p.0) ss)) in omega (arith, r, q))

  firsts-agree : (es : List ((e : Exp) × ExpAgrees e)) (d : t.Exp F) → weight (firsts (map (tree_of R) (map (λ p. p.0) es)) d) ≡ sum (map weight_of (map (λ p. p.0) es)) + weight d
  firsts-agree [] d = omega arith
  firsts-agree ((e, h) ∷ es) d = let r = firsts-agree es d in let q = sum-more (weight_of e) (map weight_of (map (λ p. p.0) es)) in omega (arith, r, q, h)

  arms-agree : (as_ : List ((a : Arm) × ArmAgrees a)) → arms_weight (arms_of (map (arm_of R) (map (λ p. p.0) as_))) ≡ sum (map arm_weight (map (λ p. p.0) as_))
  arms-agree [] = refl
  arms-agree ((a, h) ∷ as_) = let r = arms-agree as_ in let q = sum-more (arm_weight a) (map arm_weight (map (λ p. p.0) as_)) in omega (arith, r, q, h)

  funs-agree : (fs : List ((f : Function) × FunctionAgrees f)) → funs_weight (funs_of (map (function_of R) (map (λ p. p.0) fs))) ≡ sum (map function_weight (map (λ p. p.0) fs))
  funs-agree [] = refl
  funs-agree ((f, h) ∷ fs) = let r = funs-agree fs in let q = sum-more (function_weight f) (map function_weight (map (λ p. p.0) fs)) in omega (arith, r, q, h)

  fun-agrees : (xs : List Parameter) (x : Parameter) (e : t.Exp F) → fun_weight (fun_of R xs x e) ≡ weight e
  fun-agrees [] x e = refl
  fun-agrees (y ∷ xs) x e = fun-agrees xs x e

  operation-agrees : (o : Operation) → op_weight (operation_of R o) ≡ 0
  operation-agrees (op.Use x ts) = refl
  operation-agrees (op.Constant c) = refl
  operation-agrees (op.Constructor c a) = refl
  operation-agrees (op.Construct m c a k) = refl
  operation-agrees (op.Reference a) = refl
  operation-agrees (op.Refer m a k) = refl
  operation-agrees (op.Content a k) = refl
  operation-agrees (op.Pack m a x k) = refl
  operation-agrees (op.Record a fs) = refl
  operation-agrees (op.Select a l k) = refl
  operation-agrees (op.Primitive p a) = refl
  operation-agrees (op.Perform m p a as_) = refl
  operation-agrees (op.Apply place f k) = refl
  operation-agrees (op.Raise a) = refl
  operation-agrees (op.RaiseInitial n) = refl

  abbrev E : Type 0
  E = (e : Exp) × ExpAgrees e

  abbrev S : Type 0
  S = (s : Step) × StepAgrees s

  abbrev A : Type 0
  A = (a : Arm) × ArmAgrees a

  abbrev U : Type 0
  U = (f : Function) × FunctionAgrees f

  tree-rolls : (d : Exp-F Exp Step Arm Function) → tree_of R (roll-Exp d) ≡ node_exp R (map-Exp Exp Step Arm Function (t.Exp F) (StepTree F) (ArmTree F) (FunctionTree F) (tree_of R) (step_of R) (arm_of R) (function_of R) d)
  tree-rolls d = fold-roll-Exp (t.Exp F) (StepTree F) (ArmTree F) (FunctionTree F) (node_exp R) (node_step R) (node_arm R) (node_function R) d

  step-rolls : (d : Step-F Exp Step Arm Function) → step_of R (roll-Step d) ≡ node_step R (map-Step Exp Step Arm Function (t.Exp F) (StepTree F) (ArmTree F) (FunctionTree F) (tree_of R) (step_of R) (arm_of R) (function_of R) d)
  step-rolls d = fold-roll-Step (t.Exp F) (StepTree F) (ArmTree F) (FunctionTree F) (node_exp R) (node_step R) (node_arm R) (node_function R) d

  arm-rolls : (d : Arm-F Exp Step Arm Function) → arm_of R (roll-Arm d) ≡ node_arm R (map-Arm Exp Step Arm Function (t.Exp F) (StepTree F) (ArmTree F) (FunctionTree F) (tree_of R) (step_of R) (arm_of R) (function_of R) d)
  arm-rolls d = fold-roll-Arm (t.Exp F) (StepTree F) (ArmTree F) (FunctionTree F) (node_exp R) (node_step R) (node_arm R) (node_function R) d

  function-rolls : (d : Function-F Exp Step Arm Function) → function_of R (roll-Function d) ≡ node_function R (map-Function Exp Step Arm Function (t.Exp F) (StepTree F) (ArmTree F) (FunctionTree F) (tree_of R) (step_of R) (arm_of R) (function_of R) d)
  function-rolls d = fold-roll-Function (t.Exp F) (StepTree F) (ArmTree F) (FunctionTree F) (node_exp R) (node_step R) (node_arm R) (node_function R) d

  weight-rolls : (d : Exp-F Exp Step Arm Function) → weight_of (roll-Exp d) ≡ node_weight (map-Exp Exp Step Arm Function ℕ ℕ ℕ ℕ weight_of step_weight arm_weight function_weight d)
  weight-rolls d = fold-roll-Exp ℕ ℕ ℕ ℕ node_weight node_step_weight node_arm_weight node_function_weight d

  step-weight-rolls : (d : Step-F Exp Step Arm Function) → step_weight (roll-Step d) ≡ node_step_weight (map-Step Exp Step Arm Function ℕ ℕ ℕ ℕ weight_of step_weight arm_weight function_weight d)
  step-weight-rolls d = fold-roll-Step ℕ ℕ ℕ ℕ node_weight node_step_weight node_arm_weight node_function_weight d

  arm-weight-rolls : (d : Arm-F Exp Step Arm Function) → arm_weight (roll-Arm d) ≡ node_arm_weight (map-Arm Exp Step Arm Function ℕ ℕ ℕ ℕ weight_of step_weight arm_weight function_weight d)
  arm-weight-rolls d = fold-roll-Arm ℕ ℕ ℕ ℕ node_weight node_step_weight node_arm_weight node_function_weight d

  function-weight-rolls : (d : Function-F Exp Step Arm Function) → function_weight (roll-Function d) ≡ node_function_weight (map-Function Exp Step Arm Function ℕ ℕ ℕ ℕ weight_of step_weight arm_weight function_weight d)
  function-weight-rolls d = fold-roll-Function ℕ ℕ ℕ ℕ node_weight node_step_weight node_arm_weight node_function_weight d

  abbrev down : Exp-F E S A U → Exp-F Exp Step Arm Function
  down y = map-Exp E S A U Exp Step Arm Function (λ e. e.0) (λ e. e.0) (λ e. e.0) (λ e. e.0) y

  exp-case : (y : Exp-F E S A U) → ExpAgrees (roll-Exp (map-Exp E S A U Exp Step Arm Function (λ e. e.0) (λ e. e.0) (λ e. e.0) (λ e. e.0) y))
  exp-case (Exp-F.Steps ss e) =
      ap weight (tree-rolls (down (Exp-F.Steps ss e))) ∙ steps-agree ss.items (tree_of R e.value.0) ∙ ap (λ n. sum (map step_weight (map (λ p. p.0) ss.items)) + n) e.value.1 ∙ sym (weight-rolls (down (Exp-F.Steps ss e)))
  exp-case (Exp-F.Ret a) = ap weight (tree-rolls (down (Exp-F.Ret a))) ∙ sym (weight-rolls (down (Exp-F.Ret a)))
  exp-case (Exp-F.Switch a u arms) = ap weight (tree-rolls (down (Exp-F.Switch a u arms))) ∙ arms-agree arms.items ∙ sym (weight-rolls (down (Exp-F.Switch a u arms)))
  exp-case (Exp-F.First es d) =
      ap weight (tree-rolls (down (Exp-F.First es d))) ∙ firsts-agree es.items (tree_of R d.value.0) ∙ ap (λ n. sum (map weight_of (map (λ p. p.0) es.items)) + n) d.value.1 ∙ sym (weight-rolls (down (Exp-F.First es d)))
  exp-case Exp-F.Miss = ap weight (tree-rolls (down Exp-F.Miss)) ∙ sym (weight-rolls (down Exp-F.Miss))

  abbrev down-step : Step-F E S A U → Step-F Exp Step Arm Function
  down-step y = map-Step E S A U Exp Step Arm Function (λ e. e.0) (λ e. e.0) (λ e. e.0) (λ e. e.0) y

  step-agrees : (y : Step-F E S A U) (e : t.Exp F)
      → weight (put (node_step R (map-Step Exp Step Arm Function (t.Exp F) (StepTree F) (ArmTree F) (FunctionTree F) (tree_of R) (step_of R) (arm_of R) (function_of R) (map-Step E S A U Exp Step Arm Function (λ e. e.0) (λ e. e.0) (λ e. e.0) (λ e. e.0) y))) e)
      ≡ node_step_weight (map-Step Exp Step Arm Function ℕ ℕ ℕ ℕ weight_of step_weight arm_weight function_weight (map-Step E S A U Exp Step Arm Function (λ e. e.0) (λ e. e.0) (λ e. e.0) (λ e. e.0) y)) + weight e
  step-agrees (Step-F.Let b o) e = let h = operation-agrees o in omega (arith, h)
  step-agrees (Step-F.Fn b xs x e') e = ap (λ n. n + weight e) (fun-agrees xs.items x (tree_of R e'.value.0) ∙ e'.value.1)
  step-agrees (Step-F.Block b e') e = ap (λ n. n + weight e) e'.value.1
  step-agrees (Step-F.Handle b e' x h) e = let p = e'.value.1 in let q = h.value.1 in omega (arith, p, q)
  step-agrees (Step-F.Exception x i a) e = omega arith
  step-agrees (Step-F.Name x y) e = omega arith
  step-agrees (Step-F.Group ps fs) e = ap (λ n. n + weight e) (funs-agree fs.items)
  step-agrees (Step-F.Test a u c others) e = let h = arms-agree others.items in omega (arith, h)
  step-agrees (Step-F.Counted n) e = refl

  step-case : (y : Step-F E S A U) → StepAgrees (roll-Step (map-Step E S A U Exp Step Arm Function (λ e. e.0) (λ e. e.0) (λ e. e.0) (λ e. e.0) y))
  step-case y e = ap (λ s. weight (put s e)) (step-rolls (down-step y)) ∙ step-agrees y e ∙ ap (λ n. n + weight e) (sym (step-weight-rolls (down-step y)))

  abbrev down-arm : Arm-F E S A U → Arm-F Exp Step Arm Function
  down-arm y = map-Arm E S A U Exp Step Arm Function (λ e. e.0) (λ e. e.0) (λ e. e.0) (λ e. e.0) y

  arm-case : (y : Arm-F E S A U) → ArmAgrees (roll-Arm (map-Arm E S A U Exp Step Arm Function (λ e. e.0) (λ e. e.0) (λ e. e.0) (λ e. e.0) y))
  arm-case y = ap (λ (a : ArmTree F). weight a.body) (arm-rolls (down-arm y)) ∙ y.body.1 ∙ sym (arm-weight-rolls (down-arm y))

  abbrev down-function : Function-F E S A U → Function-F Exp Step Arm Function
  down-function y = map-Function E S A U Exp Step Arm Function (λ e. e.0) (λ e. e.0) (λ e. e.0) (λ e. e.0) y

  function-case : (y : Function-F E S A U) → FunctionAgrees (roll-Function (map-Function E S A U Exp Step Arm Function (λ e. e.0) (λ e. e.0) (λ e. e.0) (λ e. e.0) y))
  function-case y = ap (λ (f : FunctionTree F). fun_weight f.function) (function-rolls (down-function y)) ∙ fun-agrees y.parameters.items y.last (tree_of R y.body.0) ∙ y.body.1 ∙ sym (function-weight-rolls (down-function y))

  pub weights-agree : (e : Exp) → weight (tree_of R e) ≡ weight_of e
  weights-agree = ind-Exp ExpAgrees StepAgrees ArmAgrees FunctionAgrees
      (λ x y is. subst (λ x. ExpAgrees (roll-Exp x)) is (exp-case y))
      (λ x y is. subst (λ x. StepAgrees (roll-Step x)) is (step-case y))
      (λ x y is. subst (λ x. ArmAgrees (roll-Arm x)) is (arm-case y))
      (λ x y is. subst (λ x. FunctionAgrees (roll-Function x)) is (function-case y))
