-- What the code's parts stand for.
use Rattle.std.specs.Prelude.{ℕ, Bool, false, Option, Some, None}
use Rattle.ir_first.specs.Tree as f
use Rattle.first_tree.specs.TreeOf as source
use Rattle.first_tree.specs.TreeOf.{let_step, turn_step, try_step, when_step, unless_step, case_step}
use Rattle.ir_ssa.specs.Tree as s
use Rattle.ssa_tree.specs.TreeOf as target
use Rattle.ssa_build.specs.Build as b
use Rattle.ssa_tree.specs.declared.tree.Body.{Body}
use Rattle.ssa_pass.specs.declared.parts.Exit.{Exit}
use Rattle.ssa_pass.specs.declared.parts.Exit.TheVariants.{Returns, Joins}
use Rattle.ssa_pass.specs.declared.parts.Built.{Built}
use Rattle.ssa_pass.specs.declared.parts.Built.TheVariants.{Step, Whole}

abbrev pub exit_of : Exit → b.Exit
exit_of Returns = b.returns
exit_of (Joins l) = b.joins l

abbrev pub before_rest : Built → s.Body → s.Body
before_rest (Step g) rest = target.put (target.step_of g) rest
before_rest (Whole body) rest = target.tree_of body

-- what runs after steps: this, where nothing is left to do after it, and else the rest
abbrev pub ended : Option Body → s.Body → s.Body
ended None rest = rest
ended (Some body) rest = target.tree_of body

-- whether what follows a step only gives the value that the step binds
abbrev pub ends_with : source.StepTree → f.Exp → Bool
ends_with (let_step x o) e = b.is_last x e
ends_with (turn_step p) e = false
ends_with (try_step d) e = false
ends_with (when_step q xs d) e = false
ends_with (unless_step q xs d) e = false
ends_with (case_step x i others) e = false

abbrev pub build_arm : b.Exit → ℕ → source.ArmTree → target.ArmTree
build_arm t m a = record { tag = a.tag; body = b.build t m a.body }
