-- How often a variable is bound in the clean tree is how often it is among the variables that the code's tree binds.
use Rattle.std.proofs.Common.{◌≡◌, ℕ, ◌+◌, List, [], ◌∷◌, ◌++◌, map, refl, sym, ap, ◌∙◌, subst, arith}
use Rattle.ir_tables.specs.of_ir_plain.Kind.{Kind}
use Rattle.ir_tables.specs.of_ir_plain.Tree as t
use Rattle.ir_tables.specs.of_ir_plain.Once.{times, arms_times, op_times, fun_times, funs_times, case_times}
use Rattle.plain_tree.specs.declared.tree.Case.{Case}
use Rattle.plain_tree.specs.declared.tree.Case.TheVariants as case
use Rattle.plain_tree.specs.declared.tree.Parameter.{Parameter}
use Rattle.plain_tree.specs.declared.tree.Operation.{Operation}
use Rattle.plain_tree.specs.declared.tree.Operation.TheVariants as op
use Rattle.plain_tree.specs.declared.tree.Exp.{Exp, Exp-F}
use Rattle.plain_tree.specs.declared.tree.Exp.TheFolds.{fold-roll-Exp, fold-roll-Step, fold-roll-Arm, fold-roll-Function, map-Exp, map-Step, map-Arm, map-Function, ind-Exp}
use Rattle.plain_tree.specs.declared.tree.Exp.TheViews.{roll-Exp, roll-Step, roll-Arm, roll-Function}
use Rattle.plain_tree.specs.declared.tree.Step.{Step, Step-F}
use Rattle.plain_tree.specs.declared.tree.Arm.{Arm, Arm-F}
use Rattle.plain_tree.specs.declared.tree.Function.{Function, Function-F}
use Rattle.plain_tree.specs.TreeOf.{Reading, StepTree, ArmTree, FunctionTree, put, onto, firsts, arms_of, funs_of, fun_of, case_of, operation_of, tree_of, step_of, arm_of, function_of, node_exp, node_step, node_arm, node_function}
use Rattle.plain_tree.specs.Sums.{Vars, joined, variables_of, case_binders, binders_of, step_binders, arm_binders, function_binders, node_binders, node_step_binders, node_arm_binders, node_function_binders}

module _ {F : Kind} (R : Reading F) (h : F.Binder → ℕ) where
  -- h summed up over variables
  abbrev pub tally : List ℕ → ℕ
  tally [] = 0
  tally (x ∷ xs) = h (R.binder x) + tally xs

  tally-append : (xs ys : List ℕ) → tally (xs ++ ys) ≡ tally xs + tally ys
  tally-append [] ys = omega arith
  tally-append (x ∷ xs) ys = let r = tally-append xs ys in omega (arith, r)

  abbrev ExpAgrees : Exp → Type 0
  ExpAgrees e = times h (tree_of R e) ≡ tally (binders_of e)

  abbrev StepAgrees : Step → Type 0
  StepAgrees s = (e : t.Exp F) → times h (put (step_of R s) e) ≡ tally (step_binders s) + times h e

  abbrev ArmAgrees : Arm → Type 0
  ArmAgrees a = case_times h (arm_of R a).case + times h (arm_of R a).body ≡ tally (arm_binders a)

  abbrev FunctionAgrees : Function → Type 0
  FunctionAgrees f = h (function_of R f).variable + fun_times h (function_of R f).function ≡ tally (function_binders f)

  steps-agree : (ss : List ((s : Step) × StepAgrees s)) (e : t.Exp F) → times h (onto (map (step_of R) (map (λ p. p.0) ss)) e) ≡ tally (joined (map step_binders (map (λ p. p.0) ss))) + times h e
  steps-agree [] e = omega arith
  steps-agree ((s, p) ∷ ss) e =
      p (onto (map (step_of R) (map (λ p. p.0) ss)) e) ∙ (let r = steps-agree ss e in let q = tally-append (step_binders s) (joined (map step_binders (map (λ p. p.0) ss))) in omega (arith, r, q))

  firsts-agree : (es : List ((e : Exp) × ExpAgrees e)) (d : t.Exp F) → times h (firsts (map (tree_of R) (map (λ p. p.0) es)) d) ≡ tally (joined (map binders_of (map (λ p. p.0) es))) + times h d
  firsts-agree [] d = omega arith
  firsts-agree ((e, p) ∷ es) d = let r = firsts-agree es d in let q = tally-append (binders_of e) (joined (map binders_of (map (λ p. p.0) es))) in omega (arith, r, q, p)

  arms-agree : (as_ : List ((a : Arm) × ArmAgrees a)) → arms_times h (arms_of (map (arm_of R) (map (λ p. p.0) as_))) ≡ tally (joined (map arm_binders (map (λ p. p.0) as_)))
  arms-agree [] = refl
  arms-agree ((a, p) ∷ as_) = let r = arms-agree as_ in let q = tally-append (arm_binders a) (joined (map arm_binders (map (λ p. p.0) as_))) in omega (arith, r, q, p)

  funs-agree : (fs : List ((f : Function) × FunctionAgrees f)) → funs_times h (funs_of (map (function_of R) (map (λ p. p.0) fs))) ≡ tally (joined (map function_binders (map (λ p. p.0) fs)))
  funs-agree [] = refl
  funs-agree ((f, p) ∷ fs) = let r = funs-agree fs in let q = tally-append (function_binders f) (joined (map function_binders (map (λ p. p.0) fs))) in omega (arith, r, q, p)

  fun-agrees : (xs : List Parameter) (x : Parameter) (e : t.Exp F) (l : List ℕ) → times h e ≡ tally l → fun_times h (fun_of R xs x e) ≡ tally (variables_of xs ++ x.variable ∷ l)
  fun-agrees [] x e l p = ap (λ n. h (R.binder x.variable) + n) p
  fun-agrees (y ∷ xs) x e l p = ap (λ n. h (R.binder y.variable) + n) (fun-agrees xs x e l p)

  case-agrees : (c : Case) → case_times h (case_of R c) ≡ tally (case_binders c)
  case-agrees (case.Constant c) = refl
  case-agrees (case.Constructor c) = refl
  case-agrees (case.ConstructorOf c x) = omega arith
  case-agrees (case.Exception a) = refl
  case-agrees (case.ExceptionOf a x) = omega arith
  case-agrees (case.Record size) = refl

  operation-agrees : (o : Operation) → op_times h (operation_of R o) ≡ 0
  operation-agrees (op.Use x ts) = refl
  operation-agrees (op.Constant c) = refl
  operation-agrees (op.Constructor c a) = refl
  operation-agrees (op.Construct m c a k) = refl
  operation-agrees (op.Reference a) = refl
  operation-agrees (op.Refer m a k) = refl
  operation-agrees (op.Content a k) = refl
  operation-agrees (op.Pack m a x k) = refl
  operation-agrees (op.Record a fs) = refl
  operation-agrees (op.Select a l k) = refl
  operation-agrees (op.Primitive p a) = refl
  operation-agrees (op.Perform m p a as_) = refl
  operation-agrees (op.Apply place f k) = refl
  operation-agrees (op.Raise a) = refl
  operation-agrees (op.RaiseInitial n) = refl

  abbrev E : Type 0
  E = (e : Exp) × ExpAgrees e

  abbrev S : Type 0
  S = (s : Step) × StepAgrees s

  abbrev A : Type 0
  A = (a : Arm) × ArmAgrees a

  abbrev U : Type 0
  U = (f : Function) × FunctionAgrees f

  tree-rolls : (d : Exp-F Exp Step Arm Function) → tree_of R (roll-Exp d) ≡ node_exp R (map-Exp Exp Step Arm Function (t.Exp F) (StepTree F) (ArmTree F) (FunctionTree F) (tree_of R) (step_of R) (arm_of R) (function_of R) d)
  tree-rolls d = fold-roll-Exp (t.Exp F) (StepTree F) (ArmTree F) (FunctionTree F) (node_exp R) (node_step R) (node_arm R) (node_function R) d

  step-rolls : (d : Step-F Exp Step Arm Function) → step_of R (roll-Step d) ≡ node_step R (map-Step Exp Step Arm Function (t.Exp F) (StepTree F) (ArmTree F) (FunctionTree F) (tree_of R) (step_of R) (arm_of R) (function_of R) d)
  step-rolls d = fold-roll-Step (t.Exp F) (StepTree F) (ArmTree F) (FunctionTree F) (node_exp R) (node_step R) (node_arm R) (node_function R) d

  arm-rolls : (d : Arm-F Exp Step Arm Function) → arm_of R (roll-Arm d) ≡ node_arm R (map-Arm Exp Step Arm Function (t.Exp F) (StepTree F) (ArmTree F) (FunctionTree F) (tree_of R) (step_of R) (arm_of R) (function_of R) d)
  arm-rolls d = fold-roll-Arm (t.Exp F) (StepTree F) (ArmTree F) (FunctionTree F) (node_exp R) (node_step R) (node_arm R) (node_function R) d

  function-rolls : (d : Function-F Exp Step Arm Function) → function_of R (roll-Function d) ≡ node_function R (map-Function Exp Step Arm Function (t.Exp F) (StepTree F) (ArmTree F) (FunctionTree F) (tree_of R) (step_of R) (arm_of R) (function_of R) d)
  function-rolls d = fold-roll-Function (t.Exp F) (StepTree F) (ArmTree F) (FunctionTree F) (node_exp R) (node_step R) (node_arm R) (node_function R) d

  binders-roll : (d : Exp-F Exp Step Arm Function) → binders_of (roll-Exp d) ≡ node_binders (map-Exp Exp Step Arm Function Vars Vars Vars Vars binders_of step_binders arm_binders function_binders d)
  binders-roll d = fold-roll-Exp Vars Vars Vars Vars node_binders node_step_binders node_arm_binders node_function_binders d

  step-binders-roll : (d : Step-F Exp Step Arm Function) → step_binders (roll-Step d) ≡ node_step_binders (map-Step Exp Step Arm Function Vars Vars Vars Vars binders_of step_binders arm_binders function_binders d)
  step-binders-roll d = fold-roll-Step Vars Vars Vars Vars node_binders node_step_binders node_arm_binders node_function_binders d

  arm-binders-roll : (d : Arm-F Exp Step Arm Function) → arm_binders (roll-Arm d) ≡ node_arm_binders (map-Arm Exp Step Arm Function Vars Vars Vars Vars binders_of step_binders arm_binders function_binders d)
  arm-binders-roll d = fold-roll-Arm Vars Vars Vars Vars node_binders node_step_binders node_arm_binders node_function_binders d

  function-binders-roll : (d : Function-F Exp Step Arm Function) → function_binders (roll-Function d) ≡ node_function_binders (map-Function Exp Step Arm Function Vars Vars Vars Vars binders_of step_binders arm_binders function_binders d)
  function-binders-roll d = fold-roll-Function Vars Vars Vars Vars node_binders node_step_binders node_arm_binders node_function_binders d

  abbrev down : Exp-F E S A U → Exp-F Exp Step Arm Function
  down y = map-Exp E S A U Exp Step Arm Function (λ e. e.0) (λ e. e.0) (λ e. e.0) (λ e. e.0) y

  exp-case : (y : Exp-F E S A U) → ExpAgrees (roll-Exp (map-Exp E S A U Exp Step Arm Function (λ e. e.0) (λ e. e.0) (λ e. e.0) (λ e. e.0) y))
  exp-case (Exp-F.Steps ss e) =
      ap (times h) (tree-rolls (down (Exp-F.Steps ss e))) ∙ steps-agree ss.items (tree_of R e.value.0) ∙ ap (λ n. tally (joined (map step_binders (map (λ p. p.0) ss.items))) + n) e.value.1
      ∙ sym (tally-append (joined (map step_binders (map (λ p. p.0) ss.items))) (binders_of e.value.0)) ∙ ap tally (sym (binders-roll (down (Exp-F.Steps ss e))))
  exp-case (Exp-F.Ret a) = ap (times h) (tree-rolls (down (Exp-F.Ret a))) ∙ ap tally (sym (binders-roll (down (Exp-F.Ret a))))
  exp-case (Exp-F.Switch a u arms) = ap (times h) (tree-rolls (down (Exp-F.Switch a u arms))) ∙ arms-agree arms.items ∙ ap tally (sym (binders-roll (down (Exp-F.Switch a u arms))))
  exp-case (Exp-F.First es d) =
      ap (times h) (tree-rolls (down (Exp-F.First es d))) ∙ firsts-agree es.items (tree_of R d.value.0) ∙ ap (λ n. tally (joined (map binders_of (map (λ p. p.0) es.items))) + n) d.value.1
      ∙ sym (tally-append (joined (map binders_of (map (λ p. p.0) es.items))) (binders_of d.value.0)) ∙ ap tally (sym (binders-roll (down (Exp-F.First es d))))
  exp-case Exp-F.Miss = ap (times h) (tree-rolls (down Exp-F.Miss)) ∙ ap tally (sym (binders-roll (down Exp-F.Miss)))

  abbrev down-step : Step-F E S A U → Step-F Exp Step Arm Function
  down-step y = map-Step E S A U Exp Step Arm Function (λ e. e.0) (λ e. e.0) (λ e. e.0) (λ e. e.0) y

  step-agrees : (y : Step-F E S A U) (e : t.Exp F)
      → times h (put (node_step R (map-Step Exp Step Arm Function (t.Exp F) (StepTree F) (ArmTree F) (FunctionTree F) (tree_of R) (step_of R) (arm_of R) (function_of R) (map-Step E S A U Exp Step Arm Function (λ e. e.0) (λ e. e.0) (λ e. e.0) (λ e. e.0) y))) e)
      ≡ tally (node_step_binders (map-Step Exp Step Arm Function Vars Vars Vars Vars binders_of step_binders arm_binders function_binders (map-Step E S A U Exp Step Arm Function (λ e. e.0) (λ e. e.0) (λ e. e.0) (λ e. e.0) y))) + times h e
  step-agrees (Step-F.Let b o) e = let p = operation-agrees o in omega (arith, p)
  step-agrees (Step-F.Fn b xs x e') e = let p = fun-agrees xs.items x (tree_of R e'.value.0) (binders_of e'.value.0) e'.value.1 in omega (arith, p)
  step-agrees (Step-F.Block b e') e = let p = e'.value.1 in omega (arith, p)
  step-agrees (Step-F.Handle b e' x d) e = let p = e'.value.1 in let q = d.value.1 in let r = tally-append (binders_of e'.value.0) (x ∷ binders_of d.value.0) in omega (arith, p, q, r)
  step-agrees (Step-F.Exception x i a) e = omega arith
  step-agrees (Step-F.Name x y) e = omega arith
  step-agrees (Step-F.Group ps fs) e = ap (λ n. n + times h e) (funs-agree fs.items)
  step-agrees (Step-F.Test a u c others) e =
      let p = case-agrees c in let q = arms-agree others.items in let r = tally-append (case_binders c) (joined (map arm_binders (map (λ p. p.0) others.items))) in
      omega (arith, p, q, r)
  step-agrees (Step-F.Counted n) e = omega arith

  step-case : (y : Step-F E S A U) → StepAgrees (roll-Step (map-Step E S A U Exp Step Arm Function (λ e. e.0) (λ e. e.0) (λ e. e.0) (λ e. e.0) y))
  step-case y e = ap (λ s. times h (put s e)) (step-rolls (down-step y)) ∙ step-agrees y e ∙ ap (λ l. tally l + times h e) (sym (step-binders-roll (down-step y)))

  abbrev down-arm : Arm-F E S A U → Arm-F Exp Step Arm Function
  down-arm y = map-Arm E S A U Exp Step Arm Function (λ e. e.0) (λ e. e.0) (λ e. e.0) (λ e. e.0) y

  arm-case : (y : Arm-F E S A U) → ArmAgrees (roll-Arm (map-Arm E S A U Exp Step Arm Function (λ e. e.0) (λ e. e.0) (λ e. e.0) (λ e. e.0) y))
  arm-case y =
      ap (λ (a : ArmTree F). case_times h a.case + times h a.body) (arm-rolls (down-arm y)) ∙ (let p = case-agrees y.case in let q = y.body.1 in let r = tally-append (case_binders y.case) (binders_of y.body.0) in omega (arith, p, q, r))
      ∙ ap tally (sym (arm-binders-roll (down-arm y)))

  abbrev down-function : Function-F E S A U → Function-F Exp Step Arm Function
  down-function y = map-Function E S A U Exp Step Arm Function (λ e. e.0) (λ e. e.0) (λ e. e.0) (λ e. e.0) y

  function-case : (y : Function-F E S A U) → FunctionAgrees (roll-Function (map-Function E S A U Exp Step Arm Function (λ e. e.0) (λ e. e.0) (λ e. e.0) (λ e. e.0) y))
  function-case y =
      ap (λ (f : FunctionTree F). h f.variable + fun_times h f.function) (function-rolls (down-function y)) ∙ ap (λ n. h (R.binder y.variable) + n) (fun-agrees y.parameters.items y.last (tree_of R y.body.0) (binders_of y.body.0) y.body.1)
      ∙ ap tally (sym (function-binders-roll (down-function y)))

  pub binders-agree : (e : Exp) → times h (tree_of R e) ≡ tally (binders_of e)
  binders-agree = ind-Exp ExpAgrees StepAgrees ArmAgrees FunctionAgrees
      (λ x y is. subst (λ x. ExpAgrees (roll-Exp x)) is (exp-case y))
      (λ x y is. subst (λ x. StepAgrees (roll-Step x)) is (step-case y))
      (λ x y is. subst (λ x. ArmAgrees (roll-Arm x)) is (arm-case y))
      (λ x y is. subst (λ x. FunctionAgrees (roll-Function x)) is (function-case y))
