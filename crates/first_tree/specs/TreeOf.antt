-- The clean tree of the code's tree.
use Rattle.std.specs.Prelude.{ℕ, List, [], ◌∷◌, map}
use Rattle.mlc_base.specs.declared.place.Place.{Place}
use Rattle.first_values.specs.Operations.{Test}
use Rattle.first_tables.specs.TablesOf.{plain_of, operands_of, test_of, callee_of, piece_of}
use Rattle.ir_first.specs.Tree as f
use Rattle.first_tree.specs.declared.tree.Operation.{Operation}
use Rattle.first_tree.specs.declared.tree.Operation.TheVariants as op
use Rattle.first_tree.specs.declared.tree.Exp.{Exp, Exp-F, fold-Exp}
use Rattle.first_tree.specs.declared.tree.Step.{Step, Step-F, fold-Step}
use Rattle.first_tree.specs.declared.tree.Arm.{Arm, Arm-F, fold-Arm}
use Rattle.first_tree.specs.declared.tree.Fun.{Fun}

-- one step
pub data StepTree : Type 0 where
  let_step : ℕ → f.Op → StepTree
  turn_step : Place → StepTree
  try_step : f.Exp → StepTree
  when_step : Test → List ℕ → f.Exp → StepTree
  unless_step : Test → List ℕ → f.Exp → StepTree
  case_step : (x tag : ℕ) → f.Arms → StepTree

pub record ArmTree : Type 0 where
  pub tag : ℕ
  pub body : f.Exp

abbrev pub put : StepTree → f.Exp → f.Exp
put (let_step x o) e = f.let_in x o e
put (turn_step p) e = f.turn p e
put (try_step d) e = f.first d e
put (when_step q xs d) e = f.branch q xs e d
put (unless_step q xs d) e = f.branch q xs d e
put (case_step x i others) e = f.switch x (f.arm i e others)

-- steps in front of an expression
abbrev pub onto : List StepTree → f.Exp → f.Exp
onto [] e = e
onto (s ∷ ss) e = put s (onto ss e)

abbrev pub arms_of : List ArmTree → f.Arms
arms_of [] = f.no_arms
arms_of (a ∷ as_) = f.arm a.tag a.body (arms_of as_)

abbrev pub operation_of : Operation → f.Op
operation_of (op.Plain p xs) = f.plain (plain_of p) xs.items
operation_of (op.Make t ps) = f.make t (map piece_of ps.items)
operation_of (op.Attempt k p xs) = f.attempt (operands_of k) p xs.items
operation_of (op.Call p c xs) = f.call p (callee_of c) xs.items
operation_of (op.Raise x) = f.raise x

abbrev pub node_exp : Exp-F f.Exp StepTree ArmTree → f.Exp
node_exp (Exp-F.Steps ss e) = onto ss.items e.value
node_exp (Exp-F.Ret x) = f.ret x
node_exp (Exp-F.Switch x arms) = f.switch x (arms_of arms.items)
node_exp Exp-F.Miss = f.miss

abbrev pub node_step : Step-F f.Exp StepTree ArmTree → StepTree
node_step (Step-F.Let x o) = let_step x (operation_of o)
node_step (Step-F.Block x e) = let_step x (f.block e.value)
node_step (Step-F.Handle x e y h) = let_step x (f.handle e.value y h.value)
node_step (Step-F.Turn p) = turn_step p
node_step (Step-F.Try e) = try_step e.value
node_step (Step-F.When q xs e) = when_step (test_of q) xs.items e.value
node_step (Step-F.Unless q xs e) = unless_step (test_of q) xs.items e.value
node_step (Step-F.Case x i others) = case_step x i (arms_of others.items)

abbrev pub node_arm : Arm-F f.Exp StepTree ArmTree → ArmTree
node_arm a = record { tag = a.tag; body = a.body }

abbrev pub tree_of : Exp → f.Exp
tree_of = fold-Exp f.Exp StepTree ArmTree node_exp node_step node_arm

abbrev pub step_of : Step → StepTree
step_of = fold-Step f.Exp StepTree ArmTree node_exp node_step node_arm

abbrev pub arm_of : Arm → ArmTree
arm_of = fold-Arm f.Exp StepTree ArmTree node_exp node_step node_arm

abbrev pub fun_of : Fun → f.Fun
fun_of g = record { params = g.params.items; body = tree_of g.body }
