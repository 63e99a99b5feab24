-- What arms become.
use Rattle.std.specs.Prelude.{ℕ, List}
use Rattle.ir_mono.specs.Types as table
use Rattle.flow_sets.specs.Flow.{Flow}
use Rattle.plain_tree.specs.declared.tree.Arm.{Arm}
use Rattle.plain_tree.specs.TreeOf.{case_of}
use Rattle.mono_bound.specs.Reads.{reading, mono_of}
use Rattle.closure_convert.specs.Scope.{Scope, Table}
use Rattle.closure_convert.specs.Closed.{case_scope}
use Rattle.ir_first.specs.Tree as out
use Rattle.closure_meaning.specs.Convert.{Numbering, convert}
use Rattle.closure_steps.specs.Cases.{opened}

module _ (n : Numbering) (types : List table.Row) (strings : List (List ℕ)) (F : Flow) (T : Table) (s : Scope) (a : ℕ) where
  -- the body of an arm, behind what it has of the value that came to it
  abbrev pub body_made : Arm → out.Exp
  body_made arm = opened a arm.case (convert n types F T (case_scope types (case_of (reading types strings) arm.case) s) (mono_of types strings arm.body))
