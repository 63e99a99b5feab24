-- What the elaborator says of a project's parts, one after the other.
use Rattle.std.specs.Prelude.{◌≡◌, List, [], map}
use Rattle.sml_tree.specs.BareTree.{Decs}
use Rattle.core_rules.specs.Project.{Part}
use Rattle.prog_tree.specs.TreeOf.{dec_of, decs_of}
use Rattle.elab_steps.specs.Tidy.{AreConstructors}
use Rattle.elab_steps.specs.World.{World, Comes}
use Rattle.elab_finish.specs.of_basis_context.Telling.{HasInitial}
pub use Rattle.elab_exps.specs.Decs.{StandsIn}
use Rattle.exp_weights.specs.Nodes.{capped}
use Rattle.project_elab.specs.Counted.{parts_count}
use Rattle.project_elab.specs.Standard.{ElaboratesParts}
use Rattle.project_elab.specs.declared.project.Elaborating.{Elaborating}

-- the parts elaborate in every world in which what the state says comes true, and their nodes that no expression encloses are counted; the state may go on, and
-- may be the last one
pub record HasElaborated (prelude : Decs) (parts : List Part) (e : Elaborating) : Type 0 where
  pub stands : StandsIn e.state e.context
  pub constructors : AreConstructors e.state
  pub nodes : e.nodes ≡ capped (parts_count prelude parts)
  pub gives : (W : World) → Comes e.state W → HasInitial W → W.parameters 0 ≡ []
      → ElaboratesParts W prelude parts (decs_of (map (dec_of W.reading) e.body.items)) e.context e.state.next
