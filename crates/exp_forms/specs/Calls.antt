-- A function and its arguments so far.
use Rattle.std.specs.Prelude.{map}
use Rattle.mlc_base.specs.declared.place.Place.{Place}
use Rattle.sml_tree.specs.BareTree as bare
use Rattle.prog_tree.specs.TreeOf.{apply_by, argument_of, tree_of}
use Rattle.elab_typed.specs.Contexts.{Around}
use Rattle.pat_elab.specs.of_elab_state.declared.state.State.{State}
use Rattle.pat_elab.specs.of_elab_steps.Growing.{HasType, Grows}
use Rattle.pat_elab.specs.of_elab_steps.World.{World, type_of, Comes}
use Rattle.pat_elab.specs.of_elab_context.Telling.{Tells}
use Rattle.pat_elab.specs.of_elab_context.declared.context.Context.{Context}
use Rattle.use_elab.specs.Elaborated.{ElaboratesExp}
use Rattle.exp_forms.specs.declared.made.Called.{Called}

pub record IsCall (S : State) (C : Context) (place : Place) (e : bare.Exp) (T : State) (made : Called) : Type 0 where
  pub grows : Grows S T
  pub is : HasType T made.ty
  pub gives : (W : World) → Comes T W → (A : Around) → Tells C W A
      → ElaboratesExp W A S.next e (apply_by W.reading.type place (tree_of W.reading made.function.value) (map (argument_of W.reading) made.arguments.items)) (type_of W made.ty)
