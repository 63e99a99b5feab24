-- Abbreviations: type functions, over parameters of their own.
use Rattle.std.specs.Prelude.{◌≡◌, ◌<◌, ◌≤◌, ℕ, true, List, [], map, length, Some}
use Rattle.std.specs.List.{AllByRecursion, list_all}
use Rattle.ty_table.specs.TypeAt.{top, type_at}
use Rattle.sml_tree.specs.BareTree.{TypeBind}
use Rattle.core_rules.specs.Elaborated.{type_of, types_bound, with_parameters}
use Rattle.core_rules.specs.Objects.{Map, TypeStructure}
use Rattle.core_rules.specs.Restrictions.{no_repetition}
use Rattle.elab_typed.specs.Contexts.{Around, generic}
use Rattle.elab_types.specs.declared.scope.SchemeRange.{SchemeRange}
use Rattle.elab_types.specs.declared.scope.TypeEntry.{TypeEntry}
use Rattle.elab_types.specs.declared.scope.TypeScope.{TypeScope}
use Rattle.closed_types.specs.of_elab_state.States.{types_in}
use Rattle.closed_types.specs.of_elab_state.declared.state.State.{State}
use Rattle.closed_types.specs.of_elab_steps.Growing.{Grows}
use Rattle.closed_types.specs.of_elab_steps.World.{World, Comes}
use Rattle.exp_forms.specs.of_elab_context.Telling.{Tells, function_of}
use Rattle.exp_forms.specs.of_elab_context.declared.context.Context.{Context}

-- the schemes of no constructors
abbrev pub no_schemes : SchemeRange
no_schemes = record { first = 0; count = 0 }

-- the body is a type of the table, its variables are the parameters, and there are no constructors
pub record IsClosedEntry (S : State) (e : TypeEntry) : Type 0 where
  pub held : e.body < length (types_in S)
  pub closed : top (type_at (types_in S) e.body) ≤ e.arity
  pub bare : e.constructors ≡ no_schemes

-- e is the type function of a binding, in whatever has the type constructors of the scope
pub record IsTypeFunction (S : State) (s : TypeScope) (b : TypeBind) (T : State) (e : TypeEntry) : Type 0 where
  pub grows : Grows S T
  pub next : T.next ≡ S.next
  pub entry : IsClosedEntry T e
  pub arity : e.arity ≡ length b.tyvars
  pub unrepeated : no_repetition b.tyvars ≡ true
  pub gives : (W : World) → Comes T W → (C : Context) (A : Around) → C.types.types ≡ s.types → Tells C W A
      → type_of (with_parameters (generic A) b.tyvars) b.ty ≡ Some (W.raw e.body)

-- type functions as structures without constructors
abbrev pub type_map : World → List (ℕ × TypeEntry) → Map ℕ TypeStructure
type_map W = map (λ e. (e.0, record { function = function_of W e.1; constructors = [] }))

pub record AreTypeFunctions (S : State) (s : TypeScope) (bs : List TypeBind) (T : State) (ts : List (ℕ × TypeEntry)) : Type 0 where
  pub grows : Grows S T
  pub next : T.next ≡ S.next
  pub entries : AllByRecursion (λ e. IsClosedEntry T e.1) ts
  pub tycons : map (λ e. e.0) ts ≡ map (λ b. b.tycon) bs
  pub unrepeated : list_all (λ b. no_repetition b.tyvars) bs ≡ true
  pub gives : (W : World) → Comes T W → (C : Context) (A : Around) → C.types.types ≡ s.types → Tells C W A
      → types_bound (generic A) bs ≡ Some (type_map W ts)
