-- All that a declaration has: functions that were reserved, the bindings beside them, and the functions.
use Rattle.std.specs.Prelude.{◌≡◌, ℕ, Bool, true, List, ◌++◌, map, Vec}
use Rattle.std.specs.Global.{Global}
use Rattle.sml_tree.specs.TreeOf.{RuleOf}
use Rattle.prog_tree.specs.declared.tree.Binding.{Binding}
use Rattle.prog_tree.specs.declared.tree.Function.{Function}
use Rattle.prog_tree.specs.declared.tree.Rule.{Rule}
use Rattle.elab_types.specs.declared.scope.TypeScope.{TypeScope}
use Rattle.elab_state.specs.declared.state.State.{State}
use Rattle.elab_context.specs.declared.context.Context.{Context}
use Rattle.rec_groups.specs.of_pat_elab.declared.bound.BoundVariable.{BoundVariable}
use Rattle.rec_groups.specs.Functions.{AreFunctions}
use Rattle.rec_groups.specs.Heads.{AreReserved, falling, with_own}
use Rattle.rec_groups.specs.declared.head.Head.{Head}
use Rattle.general_vals.specs.of_general_worlds.Inner.{deeper}
use Rattle.general_decs.specs.Inside.{AreInside, marked_as}

-- The functions gs are in scope in one another, and in none of the bindings rs. What the functions bind stands behind what the bindings do, and is
-- generalised.
pub record IsDeclared (M : State) (C : Context) (s : TypeScope) (rs gs : List RuleOf) (N : State) (bound : List BoundVariable) (flags : List Bool)
    (binds : List (Binding × Rule)) (funs : List (Vec ℕ Global × ℕ × Function)) : Type 0 where
  pub heads : List Head
  pub variables : List BoundVariable
  pub marks : List Bool
  pub behind : State
  pub between : State
  pub reserved : AreReserved M (deeper C s) (map (λ r. r.pat) gs) behind heads
  pub inside : AreInside behind C s rs between variables marks binds
  pub functions : AreFunctions between (with_own (deeper C s) heads) gs N funs heads
  pub together : bound ≡ variables ++ falling heads
  pub flagged : flags ≡ marks ++ marked_as true (falling heads)
