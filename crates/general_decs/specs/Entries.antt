-- What the variables of a declaration are when they come into scope.
use Rattle.std.specs.Prelude.{◌≡◌, ◌&&◌, ℕ, Bool, true, false, List, [], ◌∷◌, ⊤}
use Rattle.std.specs.List.{AllByRecursion}
use Rattle.ty_core.specs.declared.scheme.Quantified.{Quantified}
use Rattle.sml_tree.specs.declared.ident.Vid.{Vid}
use Rattle.elab_state.specs.declared.state.State.{State}
use Rattle.elab_steps.specs.Growing.{Always, Grows}
use Rattle.elab_steps.specs.World.{type_of}
use Rattle.elab_context.specs.declared.entry.Entry.{Entry}
use Rattle.elab_context.specs.declared.entry.Entry.TheVariants.{General}
use Rattle.rec_groups.specs.of_pat_elab.declared.bound.BoundVariable.{BoundVariable}
use Rattle.elab_steps.specs.Tidy.{IsTidy}
use Rattle.general_vals.specs.of_general_worlds.Tidy.{AreOpen}
use Rattle.general_vals.specs.Settling.{IsMade, KeepsVariables, Settles}

-- types of what is bound, also over variables that are done with
abbrev pub AreMade : State → List BoundVariable → Type 0
AreMade S = AllByRecursion (λ b. IsMade S b.ty)

abbrev pub has_some : List Quantified → Bool
has_some [] = false
has_some (q ∷ qs) = true

-- between the states S and T a type was resolved: then no bound variable stood in it
pub record IsSettled (S T : State) (l was ty : ℕ) : Type 0 where
  pub from : State
  pub at : State
  pub keeps : KeepsVariables S from
  pub settles : Settles from at was ty
  pub after : Grows S at
  pub before : Grows at T
  pub tidy : IsTidy at l
  pub resolved : AreOpen at ty
  pub same : Always at (λ W. type_of W ty ≡ type_of W was)

-- the variable is over the list of parameters if it is generalised, and there are some
pub record IsShown (S T : State) (l list : ℕ) (some : Bool) (b : BoundVariable) (f : Bool) (e : Vid × Entry) : Type 0 where
  pub ty : ℕ
  pub vid : e.0 ≡ b.vid
  pub is : e.1 ≡ General list ty b.number (f && some)
  pub settled : IsSettled S T l b.ty ty

abbrev pub AreShown : State → State → ℕ → ℕ → Bool → List BoundVariable → List Bool → List (Vid × Entry) → Type 0
AreShown S T l list some [] [] [] = ⊤
AreShown S T l list some [] [] (e ∷ es) = ⊥
AreShown S T l list some [] (f ∷ fs) es = ⊥
AreShown S T l list some (b ∷ bs) [] es = ⊥
AreShown S T l list some (b ∷ bs) (f ∷ fs) [] = ⊥
AreShown S T l list some (b ∷ bs) (f ∷ fs) (e ∷ es) = IsShown S T l list some b f e × AreShown S T l list some bs fs es
