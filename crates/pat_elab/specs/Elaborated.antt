-- What the elaborator says of a pattern: in every world in which what the state says afterwards comes true, it elaborates to the program's pattern, with its type
-- and what it binds.
use Rattle.std.specs.Prelude.{◌≡◌, ◌<◌, ◌≤◌, ◌+◌, ℕ, true, List, [], ◌∷◌, ◌++◌, map, Option}
use Rattle.std.specs.List.{AllByRecursion}
use Rattle.ty_core.specs.Types.{Typ}
use Rattle.sml_tree.specs.BareTree as bare
use Rattle.sml_tree.specs.declared.ident.Vid.{Vid}
use Rattle.core_rules.specs.Objects.{Over}
use Rattle.core_rules.specs.Choices.{Choices}
use Rattle.core_rules.specs.Typing.{Bound}
use Rattle.ir_poly.specs.Prog as prog
use Rattle.ir_poly.specs.Types.{over}
use Rattle.core_elab.specs.Scopes.{Scope, empty, scoped, variable}
use Rattle.prog_tree.specs.TreeOf.{pat_of}
use Rattle.elab_context.specs.of_elab_typed.Contexts.{Around}
use Rattle.elab_context.specs.of_elab_typed.Elaborates.{PatElab, Binds, Stands, StandsIf}
use Rattle.elab_context.specs.of_elab_steps.Growing.{HasType, Grows, Always}
use Rattle.elab_context.specs.of_elab_state.declared.state.State.{State}
use Rattle.elab_context.specs.of_elab_steps.World.{World, type_of, Comes}
use Rattle.elab_context.specs.Telling.{Tells}
use Rattle.elab_context.specs.declared.context.Context.{Context}
use Rattle.pat_elab.specs.declared.bound.BoundVariable.{BoundVariable}
use Rattle.pat_elab.specs.declared.bound.TypedPat.{TypedPat}

-- identifiers with their types
abbrev pub bound_of : World → List BoundVariable → Bound
bound_of W = map (λ b. (b.vid, type_of W b.ty))

-- and with what they stand for, the last in front
abbrev pub scope_onto : Scope → List BoundVariable → Scope
scope_onto s [] = s
scope_onto s (b ∷ bs) = scope_onto (scoped b.vid (variable b.number) s) bs

abbrev pub scope_of : List BoundVariable → Scope
scope_of = scope_onto empty

-- a pattern elaborates, from the k-th variable on
pub record Elaborates (W : World) (A : Around) (k : ℕ) (a : bare.Pat) (p : prog.Pat) (t : Typ) (bs : List BoundVariable) (j : ℕ) : Type 0 where
  pub choices : Choices
  pub elab : PatElab W.table A k a p t (bound_of W bs) choices (scope_of bs) j
  -- its type is over the names and the parameters in scope
  pub names : Over A.names t
  pub parameters : over A.parameters t ≡ true

-- an identifier is bound
pub record IsBound (S : State) (C : Context) (x : Vid) (before after : List BoundVariable) (b : BoundVariable) (T : State) : Type 0 where
  pub last : after ≡ before ++ b ∷ []
  pub vid : b.vid ≡ x
  pub number : S.next ≤ b.number
  pub next : T.next ≡ b.number + 1
  pub grows : Grows S T
  pub is : HasType T b.ty
  pub binds : (W : World) → Comes T W → (A : Around) → Tells C W A → Binds A x (type_of W b.ty)
  pub parameters : (W : World) → Comes T W → (A : Around) → Tells C W A → over A.parameters (type_of W b.ty) ≡ true

-- a type is made the one that is written
pub record IsAnnotated (S : State) (C : Context) (ty : bare.Ty) (k : ℕ) (T : State) : Type 0 where
  pub grows : Grows S T
  pub next : T.next ≡ S.next
  pub stands : (W : World) → Comes T W → (A : Around) → Tells C W A → Stands A ty (type_of W k)

-- a type that may be written
pub record IsAnnotatedIf (S : State) (C : Context) (ty : Option bare.Ty) (k : ℕ) (T : State) : Type 0 where
  pub grows : Grows S T
  pub next : T.next ≡ S.next
  pub stands : (W : World) → Comes T W → (A : Around) → Tells C W A → StandsIf A ty (type_of W k)

-- and two types are made one
pub record IsNamed (S : State) (C : Context) (ty : Option bare.Ty) (k inner : ℕ) (T : State) : Type 0 where
  pub annotated : IsAnnotatedIf S C ty k T
  pub same : Always T (λ W. type_of W k ≡ type_of W inner)

-- a variable is the state's: its type is one, and its number is below the next
pub record HasVariable (S : State) (b : BoundVariable) : Type 0 where
  pub is : HasType S b.ty
  pub below : b.number < S.next

abbrev pub AreVariables : State → List BoundVariable → Type 0
AreVariables S = AllByRecursion (HasVariable S)

pub record IsPat (S : State) (C : Context) (a : bare.Pat) (T : State) (before after : List BoundVariable) (r : TypedPat) : Type 0 where
  pub added : List BoundVariable
  pub bound : after ≡ before ++ added
  pub grows : Grows S T
  pub is : HasType T r.ty
  pub have : AreVariables T added
  pub gives : (W : World) → Comes T W → (A : Around) → Tells C W A → Elaborates W A S.next a (pat_of W.reading r.pat) (type_of W r.ty) added T.next
