-- What is left open at the end of a source, and what becomes of it.
use Rattle.std.specs.Prelude.{◌≡◌, ◌⊎◌, Bool, true, false, List, [], length}
use Rattle.sml_tree.specs.BareTree as bare
use Rattle.elab_state.specs.States.{made}
use Rattle.elab_state.specs.declared.state.State.{State}
use Rattle.elab_steps.specs.Flexible.{AreSettled, OneIsFlexible}
use Rattle.elab_steps.specs.Growing.{Grows}
use Rattle.run_end.specs.of_dec_forms.declared.brought.Brought.{Brought}
use Rattle.elab_exps.specs.Decs.{AreDeclared}
use Rattle.run_end.specs.Chosen.{AreChosen}
use Rattle.run_end.specs.Settled.{IsSettled}
use Rattle.project_elab.specs.declared.project.Elaborating.{Elaborating}

-- The declarations of a source were elaborated, the variables that they made got the defaults of their classes, and the flag says whether all that they brought
-- into scope is settled then, and the fields of all their record patterns with `...`.
pub record IsClosed (e : Elaborating) (ds : List bare.Dec) (f : Elaborating) (flag : Bool) : Type 0 where
  pub between : State
  pub nothing : Brought
  pub brought : Brought
  pub empty : nothing.values.items ≡ []
  pub declared : AreDeclared e.state e.context ds between f.context e.body.items f.body.items nothing brought
  pub grows : Grows between f.state
  pub chosen : AreChosen between f.state (made e.state)
  pub settled : flag ≡ true → IsSettled f.state brought × AreSettled f.state (length e.state.flexible.items) []
  pub unsettled : flag ≡ false → (IsSettled f.state brought → ⊥) ⊎ OneIsFlexible f.state (length e.state.flexible.items) []
