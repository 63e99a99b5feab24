-- The sum of a tree's weights, and the variables that it binds.
use Rattle.std.specs.Prelude.{ℕ, ◌+◌, List, [], ◌∷◌, ◌++◌, map, sum}
use Rattle.ir_tables.specs.of_ir_plain.Once.{hit}
use Rattle.plain_tree.specs.declared.tree.Parameter.{Parameter}
use Rattle.plain_tree.specs.declared.tree.Case.{Case}
use Rattle.plain_tree.specs.declared.tree.Case.TheVariants as case
use Rattle.plain_tree.specs.declared.tree.Exp.{Exp, Exp-F, fold-Exp}
use Rattle.plain_tree.specs.declared.tree.Step.{Step, Step-F, fold-Step}
use Rattle.plain_tree.specs.declared.tree.Arm.{Arm, Arm-F, fold-Arm}
use Rattle.plain_tree.specs.declared.tree.Function.{Function, Function-F, fold-Function}

abbrev pub node_weight : Exp-F ℕ ℕ ℕ ℕ → ℕ
node_weight (Exp-F.Steps ss e) = sum ss.items + e.value
node_weight (Exp-F.Ret a) = 0
node_weight (Exp-F.Switch a u arms) = sum arms.items
node_weight (Exp-F.First es d) = sum es.items + d.value
node_weight Exp-F.Miss = 0

abbrev pub node_step_weight : Step-F ℕ ℕ ℕ ℕ → ℕ
node_step_weight (Step-F.Let b o) = 0
node_step_weight (Step-F.Fn b xs x e) = e.value
node_step_weight (Step-F.Block b e) = e.value
node_step_weight (Step-F.Handle b e x h) = e.value + h.value
node_step_weight (Step-F.Exception x i a) = 0
node_step_weight (Step-F.Name x y) = 0
node_step_weight (Step-F.Group ps fs) = sum fs.items
node_step_weight (Step-F.Test a u c others) = sum others.items
node_step_weight (Step-F.Counted n) = n

abbrev pub node_arm_weight : Arm-F ℕ ℕ ℕ ℕ → ℕ
node_arm_weight a = a.body

abbrev pub node_function_weight : Function-F ℕ ℕ ℕ ℕ → ℕ
node_function_weight f = f.body

abbrev pub weight_of : Exp → ℕ
weight_of = fold-Exp ℕ ℕ ℕ ℕ node_weight node_step_weight node_arm_weight node_function_weight

abbrev pub step_weight : Step → ℕ
step_weight = fold-Step ℕ ℕ ℕ ℕ node_weight node_step_weight node_arm_weight node_function_weight

abbrev pub arm_weight : Arm → ℕ
arm_weight = fold-Arm ℕ ℕ ℕ ℕ node_weight node_step_weight node_arm_weight node_function_weight

abbrev pub function_weight : Function → ℕ
function_weight = fold-Function ℕ ℕ ℕ ℕ node_weight node_step_weight node_arm_weight node_function_weight

-- how often a number is there
abbrev pub count_of : ℕ → List ℕ → ℕ
count_of k [] = 0
count_of k (x ∷ xs) = hit k x + count_of k xs

abbrev pub joined : List (List ℕ) → List ℕ
joined [] = []
joined (l ∷ ls) = l ++ joined ls

abbrev pub variables_of : List Parameter → List ℕ
variables_of = map (λ x. x.variable)

abbrev pub case_binders : Case → List ℕ
case_binders (case.Constant c) = []
case_binders (case.Constructor c) = []
case_binders (case.ConstructorOf c x) = x.variable ∷ []
case_binders (case.Exception a) = []
case_binders (case.ExceptionOf a x) = x.variable ∷ []
case_binders (case.Record size) = []

abbrev pub Vars : Type 0
Vars = List ℕ

abbrev pub node_binders : Exp-F Vars Vars Vars Vars → Vars
node_binders (Exp-F.Steps ss e) = joined ss.items ++ e.value
node_binders (Exp-F.Ret a) = []
node_binders (Exp-F.Switch a u arms) = joined arms.items
node_binders (Exp-F.First es d) = joined es.items ++ d.value
node_binders Exp-F.Miss = []

abbrev pub node_step_binders : Step-F Vars Vars Vars Vars → Vars
node_step_binders (Step-F.Let b o) = b.variable ∷ []
node_step_binders (Step-F.Fn b xs x e) = b.variable ∷ (variables_of xs.items ++ x.variable ∷ e.value)
node_step_binders (Step-F.Block b e) = b.variable ∷ e.value
node_step_binders (Step-F.Handle b e x h) = b.variable ∷ (e.value ++ x ∷ h.value)
node_step_binders (Step-F.Exception x i a) = x ∷ []
node_step_binders (Step-F.Name x y) = x ∷ []
node_step_binders (Step-F.Group ps fs) = joined fs.items
node_step_binders (Step-F.Test a u c others) = case_binders c ++ joined others.items
node_step_binders (Step-F.Counted n) = []

abbrev pub node_arm_binders : Arm-F Vars Vars Vars Vars → Vars
node_arm_binders a = case_binders a.case ++ a.body

abbrev pub node_function_binders : Function-F Vars Vars Vars Vars → Vars
node_function_binders f = f.variable ∷ (variables_of f.parameters.items ++ f.last.variable ∷ f.body)

abbrev pub binders_of : Exp → Vars
binders_of = fold-Exp Vars Vars Vars Vars node_binders node_step_binders node_arm_binders node_function_binders

abbrev pub step_binders : Step → Vars
step_binders = fold-Step Vars Vars Vars Vars node_binders node_step_binders node_arm_binders node_function_binders

abbrev pub arm_binders : Arm → Vars
arm_binders = fold-Arm Vars Vars Vars Vars node_binders node_step_binders node_arm_binders node_function_binders

abbrev pub function_binders : Function → Vars
function_binders = fold-Function Vars Vars Vars Vars node_binders node_step_binders node_arm_binders node_function_binders
