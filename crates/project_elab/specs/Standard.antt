-- What the elaborator says of parts of a project, and of the standard basis.
use Rattle.std.specs.Prelude.{◌≡◌, ◌≤◌, ◌∷◌, [], ℕ, List, map}
use Rattle.sml_tree.specs.BareTree.{Decs}
use Rattle.core_rules.specs.Project.{Part, standard_basis}
use Rattle.ir_poly.specs.Prog as prog
use Rattle.prog_tree.specs.TreeOf.{dec_of, decs_of}
use Rattle.prog_tree.specs.declared.tree.Dec.{Dec}
use Rattle.elab_typed.specs.Contexts.{Around}
use Rattle.project_typed.specs.Elaborates.{ProjectElab}
use Rattle.elab_state.specs.declared.state.State.{State}
use Rattle.elab_steps.specs.Growing.{Grows}
use Rattle.elab_steps.specs.World.{World, Comes}
use Rattle.elab_context.specs.Telling.{Tells}
use Rattle.elab_context.specs.declared.context.Context.{Context}
use Rattle.elab_finish.specs.of_basis_context.Telling.{HasInitial}
use Rattle.elab_exps.specs.Decs.{StandsIn}

-- parts elaborate from the first variable on, in a world, and the context tells of what is around what follows; the next variable is at most the j-th
pub record ElaboratesParts (W : World) (prelude : Decs) (parts : List Part) (es : prog.Decs) (D : Context) (j : ℕ) : Type 0 where
  pub around : Around
  pub next : ℕ
  pub most : next ≤ j
  pub elab : ProjectElab W.table prelude parts es around next
  pub tells : Tells D W around

-- the standard basis elaborates in every world in which what the state says comes true, and no parameter is in scope
pub record IsStandard (S : State) (prelude : Decs) (T : State) (D : Context) (decs : List Dec) : Type 0 where
  pub grows : Grows S T
  pub stands : StandsIn T D
  pub gives : (W : World) → Comes T W → HasInitial W → W.parameters 0 ≡ [] → ElaboratesParts W prelude (standard_basis ∷ []) (decs_of (map (dec_of W.reading) decs)) D T.next
