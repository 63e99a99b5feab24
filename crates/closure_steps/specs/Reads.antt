-- The code's tree read as one with simple types, part by part.
use Rattle.std.specs.Prelude.{ℕ, List, map}
use Rattle.ir_plain.specs.Tree as t
use Rattle.ir_mono.specs.Types as table
use Rattle.ir_mono.specs.Mono.{mono}
use Rattle.plain_tree.specs.declared.tree.Arm.{Arm}
use Rattle.plain_tree.specs.declared.tree.Step.{Step}
use Rattle.plain_tree.specs.declared.tree.Function.{Function}
use Rattle.plain_tree.specs.TreeOf.{StepTree, ArmTree, FunctionTree, step_of, arm_of, function_of, arms_of, funs_of}
use Rattle.mono_bound.specs.Reads.{reading}

module _ (types : List table.Row) (strings : List (List ℕ)) where
  abbrev pub mono_step : Step → StepTree (mono types)
  mono_step = step_of (reading types strings)

  abbrev pub steps_in : List Step → List (StepTree (mono types))
  steps_in = map mono_step

  abbrev pub mono_arm : Arm → ArmTree (mono types)
  mono_arm = arm_of (reading types strings)

  abbrev pub arms_in : List Arm → t.Arms (mono types)
  arms_in as_ = arms_of (map mono_arm as_)

  abbrev pub mono_function : Function → FunctionTree (mono types)
  mono_function = function_of (reading types strings)

  abbrev pub functions_in : List Function → t.Funs (mono types)
  functions_in fs = funs_of (map mono_function fs)
