-- What the context of the initial basis tells.
use Rattle.std.specs.Prelude.{◌≡◌, ℕ, List, [], ◌∷◌, Some}
use Rattle.ty_core.specs.declared.name.TyName.{TyName}
use Rattle.ir_poly.specs.Types.{Constructor, find, initial_constructors}
use Rattle.core_rules.specs.Initial.{static_env, prelude_members}
use Rattle.core_elab.specs.Scopes.{prelude_scope}
use Rattle.elab_typed.specs.Contexts.{Around, initial_around, kept_env}
use Rattle.elab_state.specs.declared.state.State.{State}
use Rattle.elab_steps.specs.World.{World, Comes}
use Rattle.elab_context.specs.Telling.{Tells}
use Rattle.elab_context.specs.declared.context.Context.{Context}

-- the constructors of the basis are the program's
abbrev pub HasInitial : World → Type 0
HasInitial W = (y : TyName) (c : ℕ) (row : Constructor) → find initial_constructors y c ≡ Some row → find W.table y c ≡ Some row

-- what is around a phrase in the initial basis, with the program's numbers of type names
abbrev pub around_in : World → Around
around_in W = record initial_around { number = W.naming Rattle.std.specs.Prelude.None }

-- where what the state says comes true, and no parameter is in scope, the context tells of what is around a phrase in the initial basis
abbrev pub TellsBasis : State → Context → Type 0
TellsBasis S C = (W : World) → Comes S W → HasInitial W → W.parameters 0 ≡ [] → Tells C W (around_in W)

-- the same of the prelude, which sees the structure `Prim` too
abbrev pub prelude_around_in : World → Around
prelude_around_in W = record (around_in W) { env = kept_env (static_env prelude_members); scope = prelude_scope }

abbrev pub TellsPrelude : State → Context → Type 0
TellsPrelude S C = (W : World) → Comes S W → HasInitial W → W.parameters 0 ≡ [] → Tells C W (prelude_around_in W)
