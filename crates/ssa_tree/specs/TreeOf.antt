-- The clean tree of the code's tree.
use Rattle.std.specs.Prelude.{ℕ, List, [], ◌∷◌, map}
use Rattle.mlc_base.specs.declared.place.Place.{Place}
use Rattle.mlc_prims.specs.declared.basis.BasisPrimitive.{BasisPrimitive}
use Rattle.first_tables.specs.of_first_values.Values.{Piece}
use Rattle.first_tables.specs.of_first_values.Operations.{Plain, Operands, Test, Callee}
use Rattle.first_tables.specs.TablesOf.{plain_of, operands_of, test_of, callee_of, piece_of}
use Rattle.ir_ssa.specs.Tree as s
use Rattle.ssa_tree.specs.declared.tree.Body.{Body, Body-F, fold-Body}
use Rattle.ssa_tree.specs.declared.tree.Step.{Step, Step-F, fold-Step}
use Rattle.ssa_tree.specs.declared.tree.Arm.{Arm, Arm-F, fold-Arm}
use Rattle.ssa_tree.specs.declared.tree.Fun.{Fun}

-- one step
pub data StepTree : Type 0 where
  plain_step : Plain → List ℕ → (x : ℕ) → StepTree
  make_step : (tag : ℕ) → List Piece → (x : ℕ) → StepTree
  call_step : Place → Callee → List ℕ → (x : ℕ) → StepTree
  attempt_step : Operands → BasisPrimitive → List ℕ → (x : ℕ) → s.Body → StepTree
  turn_step : Place → StepTree
  label_step : (params : List ℕ) → s.Body → StepTree
  again_step : (params : List ℕ) → s.Body → StepTree
  when_step : Test → List ℕ → s.Body → StepTree
  unless_step : Test → List ℕ → s.Body → StepTree
  case_step : (x tag : ℕ) → s.Bodies → StepTree

pub record ArmTree : Type 0 where
  pub tag : ℕ
  pub body : s.Body

abbrev pub put : StepTree → s.Body → s.Body
put (plain_step p xs x) b = s.plain p xs x b
put (make_step t ps x) b = s.make t ps x b
put (call_step p c xs x) b = s.call p c xs x b
put (attempt_step k p xs x d) b = s.attempt k p xs x b d
put (turn_step p) b = s.turn p b
put (label_step xs d) b = s.label xs b d
put (again_step xs d) b = s.again xs b d
put (when_step q xs d) b = s.branch q xs b d
put (unless_step q xs d) b = s.branch q xs d b
put (case_step x i others) b = s.switch x (s.arm i b others)

-- steps in front of a body
abbrev pub onto : List StepTree → s.Body → s.Body
onto [] b = b
onto (g ∷ gs) b = put g (onto gs b)

abbrev pub bodies_of : List ArmTree → s.Body → s.Bodies
bodies_of [] b = s.last b
bodies_of (a ∷ as_) b = s.arm a.tag a.body (bodies_of as_ b)

abbrev pub node_body : Body-F s.Body StepTree ArmTree → s.Body
node_body (Body-F.Steps gs b) = onto gs.items b.value
node_body (Body-F.Guard l a y h) = s.guard l a.value y h.value
node_body (Body-F.Switch x arms b) = s.switch x (bodies_of arms.items b.value)
node_body (Body-F.Goto l xs) = s.goto l xs.items
node_body (Body-F.Jump p l xs) = s.jump p l xs.items
node_body (Body-F.Tail p c xs) = s.tail p (callee_of c) xs.items
node_body (Body-F.Ret x) = s.ret x
node_body (Body-F.Raise x) = s.raise x

abbrev pub node_step : Step-F s.Body StepTree ArmTree → StepTree
node_step (Step-F.Plain p xs x) = plain_step (plain_of p) xs.items x
node_step (Step-F.Make t ps x) = make_step t (map piece_of ps.items) x
node_step (Step-F.Call p c xs x) = call_step p (callee_of c) xs.items x
node_step (Step-F.Attempt k p xs x b) = attempt_step (operands_of k) p xs.items x b.value
node_step (Step-F.Turn p) = turn_step p
node_step (Step-F.Label xs b) = label_step xs.items b.value
node_step (Step-F.Again xs b) = again_step xs.items b.value
node_step (Step-F.When q xs b) = when_step (test_of q) xs.items b.value
node_step (Step-F.Unless q xs b) = unless_step (test_of q) xs.items b.value
node_step (Step-F.Case x i others b) = case_step x i (bodies_of others.items b.value)

abbrev pub node_arm : Arm-F s.Body StepTree ArmTree → ArmTree
node_arm a = record { tag = a.tag; body = a.body }

abbrev pub tree_of : Body → s.Body
tree_of = fold-Body s.Body StepTree ArmTree node_body node_step node_arm

abbrev pub step_of : Step → StepTree
step_of = fold-Step s.Body StepTree ArmTree node_body node_step node_arm

abbrev pub arm_of : Arm → ArmTree
arm_of = fold-Arm s.Body StepTree ArmTree node_body node_step node_arm

abbrev pub fun_of : Fun → s.Fun
fun_of g = record { params = g.params.items; body = tree_of g.body }
