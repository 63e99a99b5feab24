-- The code's tree read as one with simple types, part by part.
use Rattle.std.specs.Prelude.{ℕ, List, map}
use Rattle.ir_plain.specs.Tree as t
use Rattle.ir_mono.specs.Types as table
use Rattle.ir_mono.specs.Mono.{mono}
use Rattle.plain_tree.specs.declared.tree.Operation.{Operation}
use Rattle.plain_tree.specs.declared.tree.Binding.{Binding}
use Rattle.plain_tree.specs.declared.tree.Step.{Step}
use Rattle.plain_tree.specs.TreeOf.{StepTree, let_step, operation_of, step_of}
use Rattle.mono_bound.specs.Reads.{reading}

abbrev pub Row : Type 0
Row = table.Row

abbrev pub Texts : Type 0
Texts = List (List ℕ)

module _ (types : List table.Row) (strings : List (List ℕ)) where
  abbrev pub mono_operation : Operation → t.Op (mono types)
  mono_operation = operation_of (reading types strings)

  abbrev pub mono_step : Step → StepTree (mono types)
  mono_step = step_of (reading types strings)

  abbrev pub steps_in : List Step → List (StepTree (mono types))
  steps_in = map mono_step

  -- binds the value of an operation
  abbrev pub a_let : Binding → t.Op (mono types) → StepTree (mono types)
  a_let b o = let_step b.variable tt b.ty o
