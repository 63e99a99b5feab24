-- Fields of a pattern, one after the other.
use Rattle.std.specs.Prelude.{◌≡◌, ℕ, suc, List, [], ◌∷◌, ◌++◌}
use Rattle.std.specs.List.{AllByRecursion}
use Rattle.mlc_names.specs.declared.label.Label.TheVariants.{Number}
use Rattle.label_rows.specs.declared.sort.Field.{Field}
use Rattle.sml_tree.specs.BareTree as bare
use Rattle.sml_tree.specs.TreeOf.{PatFieldOf}
use Rattle.prog_tree.specs.TreeOf.{pat_of}
use Rattle.prog_tree.specs.declared.tree.PatField.{PatField}
use Rattle.elab_context.specs.of_elab_typed.Contexts.{Around}
use Rattle.elab_context.specs.of_elab_typed.Numbers.{type_as}
use Rattle.elab_context.specs.of_elab_state.declared.state.State.{State}
use Rattle.elab_context.specs.of_elab_steps.Growing.{HasType, Grows}
use Rattle.elab_context.specs.of_elab_steps.World.{World, type_of, Comes}
use Rattle.elab_context.specs.Telling.{Tells}
use Rattle.elab_context.specs.declared.context.Context.{Context}
use Rattle.pat_elab.specs.Elaborated.{AreVariables, Elaborates}
use Rattle.pat_elab.specs.declared.bound.BoundVariable.{BoundVariable}
use Rattle.pat_elab.specs.declared.parts.Fields.{Fields}

-- one is the field f of the source: with its label, and with its type written
pub record IsField (W : World) (A : Around) (k : ℕ) (f : PatFieldOf) (g : PatField) (r : Field) (bs : List BoundVariable) (j : ℕ) : Type 0 where
  pub elaborates : Elaborates W A k f.pat (pat_of W.reading g.pat) (type_of W r.part) bs j
  pub label : g.label ≡ f.label
  pub row_label : r.label ≡ f.label
  pub written : W.reading.type g.ty ≡ type_as A.number (type_of W r.part)

-- each from the counter of the one before
pub data Follow (W : World) (A : Around) : ℕ → List PatFieldOf → List PatField → List Field → List BoundVariable → ℕ → Type 0 where
  none_follow : {k : ℕ} → Follow W A k [] [] [] [] k
  one_follows : {k j i : ℕ} {f : PatFieldOf} {fs : List PatFieldOf} {g : PatField} {gs : List PatField} {r : Field} {rs : List Field}
      {bs cs ds : List BoundVariable} → IsField W A k f g r bs j → Follow W A j fs gs rs cs i → ds ≡ bs ++ cs → Follow W A k (f ∷ fs) (g ∷ gs) (r ∷ rs) ds i

-- the fields fs of the source were elaborated
pub record AreFields (S : State) (C : Context) (fs : List PatFieldOf) (T : State) (before after : List BoundVariable) (m : Fields) : Type 0 where
  pub added : List BoundVariable
  pub bound : after ≡ before ++ added
  pub grows : Grows S T
  pub row : AllByRecursion (λ r. HasType T r.part) m.row.items
  pub have : AreVariables T added
  pub gives : (W : World) → Comes T W → (A : Around) → Tells C W A → Follow W A S.next fs m.pats.items m.row.items added T.next

-- the parts of a tuple, with the numbers from k on for labels
abbrev pub numbered : ℕ → List bare.Pat → List PatFieldOf
numbered k [] = []
numbered k (a ∷ as_) = record { label = Number k; pat = a } ∷ numbered (suc k) as_
