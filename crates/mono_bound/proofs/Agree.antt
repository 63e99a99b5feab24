-- What is found along the code's tree is what its clean tree binds.
use Rattle.std.proofs.Common.{◌≡◌, ℕ, List, [], ◌∷◌, ◌++◌, map, refl, sym, ap, ◌∙◌, subst}
use Rattle.std.proofs.lemmas.List.{append-nil}
use Rattle.flow_sets.specs.of_ir_mono.Types as table
use Rattle.flow_sets.specs.of_ir_mono.Types.{node_at}
use Rattle.flow_sets.specs.of_ir_mono.Mono.{mono, Mono}
use Rattle.plain_tree.specs.declared.tree.Parameter.{Parameter}
use Rattle.plain_tree.specs.declared.tree.Case.{Case}
use Rattle.plain_tree.specs.declared.tree.Case.TheVariants as case
use Rattle.plain_tree.specs.declared.tree.Operation.{Operation}
use Rattle.plain_tree.specs.declared.tree.Operation.TheVariants as op
use Rattle.plain_tree.specs.declared.tree.Exp.{Exp, Exp-F}
use Rattle.plain_tree.specs.declared.tree.Exp.TheFolds.{fold-roll-Exp, fold-roll-Step, fold-roll-Arm, fold-roll-Function, map-Exp, map-Step, map-Arm, map-Function, ind-Exp}
use Rattle.plain_tree.specs.declared.tree.Exp.TheViews.{roll-Exp, roll-Step, roll-Arm, roll-Function}
use Rattle.plain_tree.specs.declared.tree.Step.{Step, Step-F}
use Rattle.plain_tree.specs.declared.tree.Arm.{Arm, Arm-F}
use Rattle.plain_tree.specs.declared.tree.Function.{Function, Function-F}
use Rattle.plain_tree.specs.TreeOf.{Reading, StepTree, ArmTree, FunctionTree, put, onto, firsts, arms_of, funs_of, fun_of, case_of, operation_of, tree_of, step_of, arm_of, function_of}
use Rattle.plain_tree.specs.TreeOf as tree
use Rattle.flow_sets.specs.ByType as by
use Rattle.flow_sets.specs.ByType.{gives, bound, bound_case, bound_arms, bound_op, bound_fun, bound_funs}
use Rattle.mono_bound.specs.declared.bound.Bound.{Bound}
use Rattle.mono_bound.specs.Bound.{bound_of, case_bound, Around, fronts, backs, joined, parameters_bound, exp_bound, step_bound, arm_bound, function_bound, node_exp, node_step, node_arm, node_function}
use Rattle.mono_bound.specs.Reads.{reading, BoundIsBound}
use Rattle.mono_bound.proofs.Next.{assoc}

abbrev these : List Bound → List by.Bound
these l = map bound_of l

these-joined : (a b : List Bound) → these (a ++ b) ≡ these a ++ these b
these-joined [] b = refl
these-joined (x ∷ a) b = ap (λ l. bound_of x ∷ l) (these-joined a b)

-- around what stands in the middle
nested : {A : Type 0} (a b c d e : List A) → a ++ ((b ++ (c ++ d)) ++ e) ≡ (a ++ b) ++ (c ++ (d ++ e))
nested a b c d e = ap (λ l. a ++ l) (assoc b (c ++ d) e ∙ ap (λ l. b ++ l) (assoc c d e)) ∙ sym (assoc a b (c ++ (d ++ e)))

module _ (types : List table.Row) (strings : List (List ℕ)) where
  abbrev R : Reading (mono types)
  R = reading types strings

  abbrev M : Type 0
  M = Mono types

  abbrev ExpAgrees : Exp → Type 0
  ExpAgrees e = bound types (tree_of R e) ≡ these (exp_bound types e)

  abbrev StepAgrees : Step → Type 0
  StepAgrees s = (e : M) → bound types (put (step_of R s) e) ≡ these (step_bound types s).front ++ (bound types e ++ these (step_bound types s).back)

  abbrev ArmAgrees : Arm → Type 0
  ArmAgrees a = bound_case types (arm_of R a).case ++ bound types (arm_of R a).body ≡ these (arm_bound types a)

  abbrev of_function : FunctionTree (mono types) → List by.Bound
  of_function g = record { variable = g.variable; what = by.value g.type } ∷ bound_fun types g.type g.function

  abbrev FunctionAgrees : Function → Type 0
  FunctionAgrees f = of_function (function_of R f) ≡ these (function_bound types f)

  steps-agree : (ss : List ((s : Step) × StepAgrees s)) (e : M)
      → bound types (onto (map (step_of R) (map (λ p. p.0) ss)) e)
      ≡ these (fronts (map (step_bound types) (map (λ p. p.0) ss))) ++ (bound types e ++ these (backs (map (step_bound types) (map (λ p. p.0) ss))))
  steps-agree [] e = sym (append-nil (bound types e))
  steps-agree ((s, h) ∷ ss) e =
      let f = step_bound types s in
      let F = fronts (map (step_bound types) (map (λ p. p.0) ss)) in
      let K = backs (map (step_bound types) (map (λ p. p.0) ss)) in
      h (onto (map (step_of R) (map (λ p. p.0) ss)) e) ∙ ap (λ l. these f.front ++ (l ++ these f.back)) (steps-agree ss e) ∙ nested (these f.front) (these F) (bound types e) (these K) (these f.back)
      ∙ ap (λ l. l ++ (bound types e ++ (these K ++ these f.back))) (sym (these-joined f.front F)) ∙ ap (λ l. these (f.front ++ F) ++ (bound types e ++ l)) (sym (these-joined K f.back))

  firsts-agree : (es : List ((e : Exp) × ExpAgrees e)) (d : M)
      → bound types (firsts (map (tree_of R) (map (λ p. p.0) es)) d) ≡ these (joined (map (exp_bound types) (map (λ p. p.0) es))) ++ bound types d
  firsts-agree [] d = refl
  firsts-agree ((e, h) ∷ es) d =
      let J = joined (map (exp_bound types) (map (λ p. p.0) es)) in
      ap (λ l. l ++ bound types (firsts (map (tree_of R) (map (λ p. p.0) es)) d)) h ∙ ap (λ l. these (exp_bound types e) ++ l) (firsts-agree es d)
      ∙ sym (assoc (these (exp_bound types e)) (these J) (bound types d)) ∙ ap (λ l. l ++ bound types d) (sym (these-joined (exp_bound types e) J))

  arms-agree : (as_ : List ((a : Arm) × ArmAgrees a)) → bound_arms types (arms_of (map (arm_of R) (map (λ p. p.0) as_))) ≡ these (joined (map (arm_bound types) (map (λ p. p.0) as_)))
  arms-agree [] = refl
  arms-agree ((a, h) ∷ as_) =
      let J = joined (map (arm_bound types) (map (λ p. p.0) as_)) in
      sym (assoc (bound_case types (arm_of R a).case) (bound types (arm_of R a).body) (bound_arms types (arms_of (map (arm_of R) (map (λ p. p.0) as_)))))
      ∙ ap (λ l. l ++ bound_arms types (arms_of (map (arm_of R) (map (λ p. p.0) as_)))) h ∙ ap (λ l. these (arm_bound types a) ++ l) (arms-agree as_) ∙ sym (these-joined (arm_bound types a) J)

  funs-agree : (fs : List ((f : Function) × FunctionAgrees f)) → bound_funs types (funs_of (map (function_of R) (map (λ p. p.0) fs))) ≡ these (joined (map (function_bound types) (map (λ p. p.0) fs)))
  funs-agree [] = refl
  funs-agree ((f, h) ∷ fs) =
      let J = joined (map (function_bound types) (map (λ p. p.0) fs)) in
      ap (λ l. l ++ bound_funs types (funs_of (map (function_of R) (map (λ p. p.0) fs)))) h ∙ ap (λ l. these (function_bound types f) ++ l) (funs-agree fs) ∙ sym (these-joined (function_bound types f) J)

  parameters-agree : (u : ℕ) (xs : List Parameter) (x : Parameter) (e : M) → bound_fun types u (fun_of R xs x e) ≡ these (parameters_bound types u xs x) ++ bound types e
  parameters-agree u [] x e = refl
  parameters-agree u (y ∷ xs) x e = ap (λ l. record { variable = y.variable; what = by.parameter u } ∷ l) (parameters-agree (gives types (node_at types u)) xs x e)

  operation-agrees : (u : ℕ) (o : Operation) → bound_op types u (operation_of R o) ≡ []
  operation-agrees u (op.Use x ts) = refl
  operation-agrees u (op.Constant c) = refl
  operation-agrees u (op.Constructor c a) = refl
  operation-agrees u (op.Construct m c a k) = refl
  operation-agrees u (op.Reference a) = refl
  operation-agrees u (op.Refer m a k) = refl
  operation-agrees u (op.Content a k) = refl
  operation-agrees u (op.Pack m a x k) = refl
  operation-agrees u (op.Record a fs) = refl
  operation-agrees u (op.Select a l k) = refl
  operation-agrees u (op.Primitive p a) = refl
  operation-agrees u (op.Perform m p a as_) = refl
  operation-agrees u (op.Apply place f k) = refl
  operation-agrees u (op.Raise a) = refl
  operation-agrees u (op.RaiseInitial n) = refl

  case-agrees : (c : Case) → bound_case types (case_of R c) ≡ these (case_bound c)
  case-agrees (case.Constant c) = refl
  case-agrees (case.Constructor c) = refl
  case-agrees (case.ConstructorOf c x) = refl
  case-agrees (case.Exception a) = refl
  case-agrees (case.ExceptionOf a x) = refl
  case-agrees (case.Record size) = refl

  abbrev E : Type 0
  E = (e : Exp) × ExpAgrees e

  abbrev S : Type 0
  S = (s : Step) × StepAgrees s

  abbrev A : Type 0
  A = (a : Arm) × ArmAgrees a

  abbrev U : Type 0
  U = (f : Function) × FunctionAgrees f

  tree-rolls : (d : Exp-F Exp Step Arm Function) → tree_of R (roll-Exp d) ≡ tree.node_exp R (map-Exp Exp Step Arm Function M (StepTree (mono types)) (ArmTree (mono types)) (FunctionTree (mono types)) (tree_of R) (step_of R) (arm_of R) (function_of R) d)
  tree-rolls d = fold-roll-Exp M (StepTree (mono types)) (ArmTree (mono types)) (FunctionTree (mono types)) (tree.node_exp R) (tree.node_step R) (tree.node_arm R) (tree.node_function R) d

  step-rolls : (d : Step-F Exp Step Arm Function) → step_of R (roll-Step d) ≡ tree.node_step R (map-Step Exp Step Arm Function M (StepTree (mono types)) (ArmTree (mono types)) (FunctionTree (mono types)) (tree_of R) (step_of R) (arm_of R) (function_of R) d)
  step-rolls d = fold-roll-Step M (StepTree (mono types)) (ArmTree (mono types)) (FunctionTree (mono types)) (tree.node_exp R) (tree.node_step R) (tree.node_arm R) (tree.node_function R) d

  arm-rolls : (d : Arm-F Exp Step Arm Function) → arm_of R (roll-Arm d) ≡ tree.node_arm R (map-Arm Exp Step Arm Function M (StepTree (mono types)) (ArmTree (mono types)) (FunctionTree (mono types)) (tree_of R) (step_of R) (arm_of R) (function_of R) d)
  arm-rolls d = fold-roll-Arm M (StepTree (mono types)) (ArmTree (mono types)) (FunctionTree (mono types)) (tree.node_exp R) (tree.node_step R) (tree.node_arm R) (tree.node_function R) d

  function-rolls : (d : Function-F Exp Step Arm Function) → function_of R (roll-Function d) ≡ tree.node_function R (map-Function Exp Step Arm Function M (StepTree (mono types)) (ArmTree (mono types)) (FunctionTree (mono types)) (tree_of R) (step_of R) (arm_of R) (function_of R) d)
  function-rolls d = fold-roll-Function M (StepTree (mono types)) (ArmTree (mono types)) (FunctionTree (mono types)) (tree.node_exp R) (tree.node_step R) (tree.node_arm R) (tree.node_function R) d

  bound-rolls : (d : Exp-F Exp Step Arm Function) → exp_bound types (roll-Exp d) ≡ node_exp types (map-Exp Exp Step Arm Function (List Bound) Around (List Bound) (List Bound) (exp_bound types) (step_bound types) (arm_bound types) (function_bound types) d)
  bound-rolls d = fold-roll-Exp (List Bound) Around (List Bound) (List Bound) (node_exp types) (node_step types) (node_arm types) (node_function types) d

  step-bound-rolls : (d : Step-F Exp Step Arm Function) → step_bound types (roll-Step d) ≡ node_step types (map-Step Exp Step Arm Function (List Bound) Around (List Bound) (List Bound) (exp_bound types) (step_bound types) (arm_bound types) (function_bound types) d)
  step-bound-rolls d = fold-roll-Step (List Bound) Around (List Bound) (List Bound) (node_exp types) (node_step types) (node_arm types) (node_function types) d

  arm-bound-rolls : (d : Arm-F Exp Step Arm Function) → arm_bound types (roll-Arm d) ≡ node_arm types (map-Arm Exp Step Arm Function (List Bound) Around (List Bound) (List Bound) (exp_bound types) (step_bound types) (arm_bound types) (function_bound types) d)
  arm-bound-rolls d = fold-roll-Arm (List Bound) Around (List Bound) (List Bound) (node_exp types) (node_step types) (node_arm types) (node_function types) d

  function-bound-rolls : (d : Function-F Exp Step Arm Function) → function_bound types (roll-Function d) ≡ node_function types (map-Function Exp Step Arm Function (List Bound) Around (List Bound) (List Bound) (exp_bound types) (step_bound types) (arm_bound types) (function_bound types) d)
  function-bound-rolls d = fold-roll-Function (List Bound) Around (List Bound) (List Bound) (node_exp types) (node_step types) (node_arm types) (node_function types) d

  abbrev down : Exp-F E S A U → Exp-F Exp Step Arm Function
  down y = map-Exp E S A U Exp Step Arm Function (λ e. e.0) (λ e. e.0) (λ e. e.0) (λ e. e.0) y

  exp-case : (y : Exp-F E S A U) → ExpAgrees (roll-Exp (map-Exp E S A U Exp Step Arm Function (λ e. e.0) (λ e. e.0) (λ e. e.0) (λ e. e.0) y))
  exp-case (Exp-F.Steps ss e) =
      let F = fronts (map (step_bound types) (map (λ p. p.0) ss.items)) in
      let K = backs (map (step_bound types) (map (λ p. p.0) ss.items)) in
      ap (bound types) (tree-rolls (down (Exp-F.Steps ss e))) ∙ steps-agree ss.items (tree_of R e.value.0) ∙ ap (λ l. these F ++ (l ++ these K)) e.value.1
      ∙ ap (λ l. these F ++ l) (sym (these-joined (exp_bound types e.value.0) K)) ∙ sym (these-joined F (exp_bound types e.value.0 ++ K)) ∙ sym (ap these (bound-rolls (down (Exp-F.Steps ss e))))
  exp-case (Exp-F.Ret a) = ap (bound types) (tree-rolls (down (Exp-F.Ret a))) ∙ sym (ap these (bound-rolls (down (Exp-F.Ret a))))
  exp-case (Exp-F.Switch a u arms) = ap (bound types) (tree-rolls (down (Exp-F.Switch a u arms))) ∙ arms-agree arms.items ∙ sym (ap these (bound-rolls (down (Exp-F.Switch a u arms))))
  exp-case (Exp-F.First es d) =
      let J = joined (map (exp_bound types) (map (λ p. p.0) es.items)) in
      ap (bound types) (tree-rolls (down (Exp-F.First es d))) ∙ firsts-agree es.items (tree_of R d.value.0) ∙ ap (λ l. these J ++ l) d.value.1 ∙ sym (these-joined J (exp_bound types d.value.0))
      ∙ sym (ap these (bound-rolls (down (Exp-F.First es d))))
  exp-case Exp-F.Miss = ap (bound types) (tree-rolls (down Exp-F.Miss)) ∙ sym (ap these (bound-rolls (down Exp-F.Miss)))

  abbrev down-step : Step-F E S A U → Step-F Exp Step Arm Function
  down-step y = map-Step E S A U Exp Step Arm Function (λ e. e.0) (λ e. e.0) (λ e. e.0) (λ e. e.0) y

  -- with nothing after what follows
  alone : (l : List by.Bound) (e : M) → l ++ bound types e ≡ l ++ (bound types e ++ [])
  alone l e = ap (λ k. l ++ k) (sym (append-nil (bound types e)))

  step-agrees : (y : Step-F E S A U) (e : M)
      → bound types (put (tree.node_step R (map-Step Exp Step Arm Function M (StepTree (mono types)) (ArmTree (mono types)) (FunctionTree (mono types)) (tree_of R) (step_of R) (arm_of R) (function_of R) (map-Step E S A U Exp Step Arm Function (λ e. e.0) (λ e. e.0) (λ e. e.0) (λ e. e.0) y))) e)
      ≡ these (node_step types (map-Step Exp Step Arm Function (List Bound) Around (List Bound) (List Bound) (exp_bound types) (step_bound types) (arm_bound types) (function_bound types) (map-Step E S A U Exp Step Arm Function (λ e. e.0) (λ e. e.0) (λ e. e.0) (λ e. e.0) y))).front
      ++ (bound types e ++ these (node_step types (map-Step Exp Step Arm Function (List Bound) Around (List Bound) (List Bound) (exp_bound types) (step_bound types) (arm_bound types) (function_bound types) (map-Step E S A U Exp Step Arm Function (λ e. e.0) (λ e. e.0) (λ e. e.0) (λ e. e.0) y))).back)
  step-agrees (Step-F.Let b o) e = ap (λ l. record { variable = b.variable; what = by.value b.ty } ∷ (l ++ bound types e)) (operation-agrees b.ty o) ∙ alone (record { variable = b.variable; what = by.value b.ty } ∷ []) e
  step-agrees (Step-F.Fn b xs x e') e =
      ap (λ l. record { variable = b.variable; what = by.value b.ty } ∷ (l ++ bound types e))
      (parameters-agree b.ty xs.items x (tree_of R e'.value.0) ∙ ap (λ l. these (parameters_bound types b.ty xs.items x) ++ l) e'.value.1 ∙ sym (these-joined (parameters_bound types b.ty xs.items x) (exp_bound types e'.value.0)))
      ∙ alone (record { variable = b.variable; what = by.value b.ty } ∷ these (parameters_bound types b.ty xs.items x ++ exp_bound types e'.value.0)) e
  step-agrees (Step-F.Block b e') e =
      ap (λ l. record { variable = b.variable; what = by.value b.ty } ∷ (l ++ bound types e)) e'.value.1 ∙ alone (record { variable = b.variable; what = by.value b.ty } ∷ these (exp_bound types e'.value.0)) e
  step-agrees (Step-F.Handle b e' x h) e =
      ap (λ l. record { variable = b.variable; what = by.value b.ty } ∷ record { variable = x; what = by.value (by.nothing types) } ∷ (l ++ bound types e))
      (ap (λ l. l ++ bound types (tree_of R h.value.0)) e'.value.1 ∙ ap (λ l. these (exp_bound types e'.value.0) ++ l) h.value.1 ∙ sym (these-joined (exp_bound types e'.value.0) (exp_bound types h.value.0)))
      ∙ alone (record { variable = b.variable; what = by.value b.ty } ∷ record { variable = x; what = by.value (by.nothing types) } ∷ these (exp_bound types e'.value.0 ++ exp_bound types h.value.0)) e
  step-agrees (Step-F.Exception x i a) e = alone (record { variable = x; what = by.name } ∷ []) e
  step-agrees (Step-F.Name x y) e = alone (record { variable = x; what = by.name } ∷ []) e
  step-agrees (Step-F.Group ps fs) e = ap (λ l. l ++ bound types e) (funs-agree fs.items) ∙ alone (these (joined (map (function_bound types) (map (λ p. p.0) fs.items)))) e
  step-agrees (Step-F.Test a u c others) e =
      ap (λ l. l ++ (bound types e ++ bound_arms types (arms_of (map (arm_of R) (map (λ p. p.0) others.items))))) (case-agrees c) ∙ ap (λ l. these (case_bound c) ++ (bound types e ++ l)) (arms-agree others.items)
  step-agrees (Step-F.Counted n) e = alone [] e

  step-case : (y : Step-F E S A U) → StepAgrees (roll-Step (map-Step E S A U Exp Step Arm Function (λ e. e.0) (λ e. e.0) (λ e. e.0) (λ e. e.0) y))
  step-case y e =
      ap (λ s. bound types (put s e)) (step-rolls (down-step y)) ∙ step-agrees y e
      ∙ sym (ap (λ (r : Around). these r.front ++ (bound types e ++ these r.back)) (step-bound-rolls (down-step y)))

  abbrev down-arm : Arm-F E S A U → Arm-F Exp Step Arm Function
  down-arm y = map-Arm E S A U Exp Step Arm Function (λ e. e.0) (λ e. e.0) (λ e. e.0) (λ e. e.0) y

  arm-case : (y : Arm-F E S A U) → ArmAgrees (roll-Arm (map-Arm E S A U Exp Step Arm Function (λ e. e.0) (λ e. e.0) (λ e. e.0) (λ e. e.0) y))
  arm-case y =
      ap (λ (a : ArmTree (mono types)). bound_case types a.case ++ bound types a.body) (arm-rolls (down-arm y)) ∙ ap (λ l. l ++ bound types (tree_of R y.body.0)) (case-agrees y.case)
      ∙ ap (λ l. these (case_bound y.case) ++ l) y.body.1 ∙ sym (these-joined (case_bound y.case) (exp_bound types y.body.0)) ∙ sym (ap these (arm-bound-rolls (down-arm y)))

  abbrev down-function : Function-F E S A U → Function-F Exp Step Arm Function
  down-function y = map-Function E S A U Exp Step Arm Function (λ e. e.0) (λ e. e.0) (λ e. e.0) (λ e. e.0) y

  function-case : (y : Function-F E S A U) → FunctionAgrees (roll-Function (map-Function E S A U Exp Step Arm Function (λ e. e.0) (λ e. e.0) (λ e. e.0) (λ e. e.0) y))
  function-case y =
      ap of_function (function-rolls (down-function y))
      ∙ ap (λ l. record { variable = y.variable; what = by.value y.ty } ∷ l)
      (parameters-agree y.ty y.parameters.items y.last (tree_of R y.body.0) ∙ ap (λ l. these (parameters_bound types y.ty y.parameters.items y.last) ++ l) y.body.1
      ∙ sym (these-joined (parameters_bound types y.ty y.parameters.items y.last) (exp_bound types y.body.0)))
      ∙ sym (ap these (function-bound-rolls (down-function y)))

  pub bound-agrees : (e : Exp) → bound types (tree_of R e) ≡ these (exp_bound types e)
  bound-agrees = ind-Exp ExpAgrees StepAgrees ArmAgrees FunctionAgrees
      (λ x y is. subst (λ x. ExpAgrees (roll-Exp x)) is (exp-case y))
      (λ x y is. subst (λ x. StepAgrees (roll-Step x)) is (step-case y))
      (λ x y is. subst (λ x. ArmAgrees (roll-Arm x)) is (arm-case y))
      (λ x y is. subst (λ x. FunctionAgrees (roll-Function x)) is (function-case y))

pub bound-is-bound : BoundIsBound
bound-is-bound types strings e = sym (bound-agrees types strings e)
