-- What a program binds, in the order of `flow_sets`, along the code's tree: steps in a row first, then what comes of them, and then the other arms of their
-- tests, those of the last test first.
use Rattle.std.specs.Prelude.{ℕ, List, [], ◌∷◌, ◌++◌, length}
use Rattle.ty_core.specs.Types.{arrow}
use Rattle.flow_sets.specs.of_ir_mono.Types as table
use Rattle.flow_sets.specs.of_ir_mono.Types.{Node, node, node_at}
use Rattle.plain_tree.specs.declared.tree.Parameter.{Parameter}
use Rattle.plain_tree.specs.declared.tree.Case.{Case}
use Rattle.plain_tree.specs.declared.tree.Case.TheVariants as case
use Rattle.plain_tree.specs.declared.tree.Exp.{Exp, Exp-F, fold-Exp}
use Rattle.plain_tree.specs.declared.tree.Step.{Step, Step-F, fold-Step}
use Rattle.plain_tree.specs.declared.tree.Arm.{Arm, Arm-F, fold-Arm}
use Rattle.plain_tree.specs.declared.tree.Function.{Function, Function-F, fold-Function}
use Rattle.flow_sets.specs.ByType as by
use Rattle.flow_sets.specs.ByType.{gives}
use Rattle.mono_bound.specs.declared.bound.What.{What}
use Rattle.mono_bound.specs.declared.bound.What.TheVariants as what
use Rattle.mono_bound.specs.declared.bound.Bound.{Bound}

-- what `flow_sets` calls it
abbrev pub what_of : What → by.What
what_of (what.Value t) = by.value t
what_of what.Name = by.name
what_of (what.Parameter f) = by.parameter f

abbrev pub bound_of : Bound → by.Bound
bound_of b = record { variable = b.variable; what = what_of b.what }

abbrev pub gives_of : (nothing : ℕ) → Node → ℕ
gives_of nothing (node arrow (a ∷ b ∷ [])) = b
gives_of nothing k = nothing

abbrev pub a_value : (x t : ℕ) → Bound
a_value x t = record { variable = x; what = what.Value t }

abbrev pub a_name : ℕ → Bound
a_name x = record { variable = x; what = what.Name }

abbrev pub a_parameter : (x t : ℕ) → Bound
a_parameter x t = record { variable = x; what = what.Parameter t }

abbrev pub case_bound : Case → List Bound
case_bound (case.Constant c) = []
case_bound (case.Constructor c) = []
case_bound (case.ConstructorOf c x) = a_value x.variable x.ty ∷ []
case_bound (case.Exception a) = []
case_bound (case.ExceptionOf a x) = a_value x.variable x.ty ∷ []
case_bound (case.Record size) = []

-- what a step binds before all that follows, and after it
pub record Around : Type 0 where
  pub front : List Bound
  pub back : List Bound

abbrev pub fronts : List Around → List Bound
fronts [] = []
fronts (s ∷ ss) = s.front ++ fronts ss

abbrev pub backs : List Around → List Bound
backs [] = []
backs (s ∷ ss) = backs ss ++ s.back

abbrev pub joined : List (List Bound) → List Bound
joined [] = []
joined (l ∷ ls) = l ++ joined ls

abbrev pub before : List Bound → Around
before l = record { front = l; back = [] }

module _ (types : List table.Row) where
  -- the parameters of a function of type t
  abbrev pub parameters_bound : (t : ℕ) → List Parameter → Parameter → List Bound
  parameters_bound t [] x = a_parameter x.variable t ∷ []
  parameters_bound t (y ∷ ys) x = a_parameter y.variable t ∷ parameters_bound (gives types (node_at types t)) ys x

  abbrev pub B : Type 0
  B = List Bound

  abbrev pub node_exp : Exp-F B Around B B → B
  node_exp (Exp-F.Steps ss e) = fronts ss.items ++ (e.value ++ backs ss.items)
  node_exp (Exp-F.Ret a) = []
  node_exp (Exp-F.Switch a u arms) = joined arms.items
  node_exp (Exp-F.First es d) = joined es.items ++ d.value
  node_exp Exp-F.Miss = []

  abbrev pub node_step : Step-F B Around B B → Around
  node_step (Step-F.Let b o) = before (a_value b.variable b.ty ∷ [])
  node_step (Step-F.Fn b xs x e) = before (a_value b.variable b.ty ∷ (parameters_bound b.ty xs.items x ++ e.value))
  node_step (Step-F.Block b e) = before (a_value b.variable b.ty ∷ e.value)
  node_step (Step-F.Handle b e x h) = before (a_value b.variable b.ty ∷ a_value x (length types) ∷ (e.value ++ h.value))
  node_step (Step-F.Exception x i a) = before (a_name x ∷ [])
  node_step (Step-F.Name x y) = before (a_name x ∷ [])
  node_step (Step-F.Group ps fs) = before (joined fs.items)
  node_step (Step-F.Test a u c others) = record { front = case_bound c; back = joined others.items }
  node_step (Step-F.Counted n) = before []

  abbrev pub node_arm : Arm-F B Around B B → B
  node_arm a = case_bound a.case ++ a.body

  abbrev pub node_function : Function-F B Around B B → B
  node_function f = a_value f.variable f.ty ∷ (parameters_bound f.ty f.parameters.items f.last ++ f.body)

  abbrev pub exp_bound : Exp → B
  exp_bound = fold-Exp B Around B B node_exp node_step node_arm node_function

  abbrev pub step_bound : Step → Around
  step_bound = fold-Step B Around B B node_exp node_step node_arm node_function

  abbrev pub arm_bound : Arm → B
  arm_bound = fold-Arm B Around B B node_exp node_step node_arm node_function

  abbrev pub function_bound : Function → B
  function_bound = fold-Function B Around B B node_exp node_step node_arm node_function
