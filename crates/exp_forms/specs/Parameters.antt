-- Parameters that take every value, one after the other, each in scope in the next.
use Rattle.std.specs.Prelude.{◌≡◌, ◌<◌, ◌≤◌, ℕ, List, [], ◌∷◌}
use Rattle.mlc_base.specs.declared.place.Place.{Place}
use Rattle.ty_core.specs.Types.{Typ}
use Rattle.sml_tree.specs.BareTree as bare
use Rattle.ir_poly.specs.TestsChecked.{of_type}
use Rattle.prog_tree.specs.declared.tree.Parameter.{Parameter}
use Rattle.elab_typed.specs.Contexts.{Around, with_bound}
use Rattle.elab_typed.specs.Elaborates.{ParameterElab}
use Rattle.elab_typed.specs.Instances.{as_typed}
use Rattle.elab_typed.specs.Numbers.{type_as}
use Rattle.pat_elab.specs.of_elab_state.declared.state.State.{State}
use Rattle.pat_elab.specs.of_elab_steps.Growing.{HasType, Grows, Always}
use Rattle.pat_elab.specs.of_elab_steps.World.{World, type_of, Comes}
use Rattle.pat_elab.specs.of_elab_context.Telling.{Tells, IsInUse}
use Rattle.pat_elab.specs.of_elab_context.declared.context.Context.{Context}
use Rattle.pat_elab.specs.Elaborated.{bound_of, scope_of}
use Rattle.pat_elab.specs.declared.bound.BoundVariable.{BoundVariable}

-- a pattern is a parameter, as the variable n, and what it binds is in scope in the context D
pub record Enters (W : World) (A : Around) (D : Context) (a : bare.Pat) (n : ℕ) (t : Typ) (bs : List BoundVariable) : Type 0 where
  pub elab : ParameterElab A n a t (bound_of W bs) (scope_of bs)
  pub used : IsInUse A t
  pub tells : Tells D W (with_bound A (bound_of W bs) (scope_of bs) ((n, of_type (as_typed A t)) ∷ A.known))

-- a new variable of the program, with a type, which is written too
pub record IsEntered (S : State) (C : Context) (a : bare.Pat) (T : State) (D : Context) (p : Parameter) (ty : ℕ) : Type 0 where
  pub bound : List BoundVariable
  pub grows : Grows S T
  pub is : HasType T ty
  pub first : S.next ≤ p.variable
  pub next : p.variable < T.next
  pub written : Always T (λ W. W.reading.type p.ty ≡ type_as (W.naming C.naming) (type_of W ty))
  pub gives : (W : World) → Comes T W → (A : Around) → Tells C W A → Enters W A D a p.variable (type_of W ty) bound

-- a parameter of the source: the places of its function and of its rule, and its pattern
pub record Takes : Type 0 where
  pub at : Place
  pub place : Place
  pub pat : bare.Pat

-- one parameter after the other, with their types
pub data AreEntered : State → Context → List Takes → State → Context → List Parameter → List ℕ → Type 0 where
  none_entered : {S : State} {C : Context} → AreEntered S C [] S C [] []
  one_entered : {S M T : State} {C D E : Context} {a : Takes} {as_ : List Takes} {p : Parameter} {ps : List Parameter} {t : ℕ} {ts : List ℕ}
      → IsEntered S C a.pat M D p t → AreEntered M D as_ T E ps ts → AreEntered S C (a ∷ as_) T E (p ∷ ps) (t ∷ ts)
