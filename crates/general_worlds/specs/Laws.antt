-- What holds outside a declaration holds inside, with its parameters.
use Rattle.std.specs.Prelude.{◌≡◌, ◌<◌, ℕ, suc, Bool, true, false, List, [], ◌++◌}
use Rattle.std.specs.List.{AllByRecursion}
use Rattle.ty_core.specs.declared.scheme.Quantified.{Quantified}
use Rattle.sml_tree.specs.BareTree as bare
use Rattle.sml_tree.specs.declared.ident.Tyvar.{Tyvar}
use Rattle.core_rules.specs.Objects.{Over}
use Rattle.ir_poly.specs.Types.{are_new, in_scope, over}
use Rattle.elab_typed.specs.Contexts.{Around, IsOver}
use Rattle.elab_typed.specs.Elaborates.{inner}
use Rattle.elab_types.specs.declared.scope.TypeScope.{TypeScope}
use Rattle.elab_state.specs.declared.state.State.{State}
use Rattle.elab_state.specs.States.{dead_level, general_in, made}
use Rattle.elab_steps.specs.Growing.{Grows, HasGeneral, HasType}
use Rattle.elab_steps.specs.Tidy.{IsTidy}
use Rattle.elab_steps.specs.World.{World, Comes, type_of}
use Rattle.elab_context.specs.Telling.{IsContext, IsGeneral, Tells}
use Rattle.elab_context.specs.declared.context.Context.{Context}
use Rattle.general_worlds.specs.Tidy.{AreOpen, AreOuter, Ends, Enters}
use Rattle.general_worlds.specs.Inner.{IsInside, inner_world, ComesInside, deeper, HasTyvars}

-- where a declaration ends, what the state before says comes true inside, in each world in which what the state after says comes true
abbrev pub WorldsGeneralise : Type 0
WorldsGeneralise = (l : ℕ) (qs : List Quantified) (S T : State) → Ends l qs S T → (W : World) → Comes T W → ComesInside S W l qs

-- what a context tells of outside it tells inside of what is around there, where its type constructors stay
abbrev pub ContextsTellInside : Type 0
ContextsTellInside = (C : Context) (s : TypeScope) (W : World) (A : Around) (qs : List Quantified) (h : IsInside W C.level qs) (as_ : List Tyvar) (bs rs : bare.Binds)
    → s.types ≡ C.types.types → HasTyvars W s (inner A as_ bs rs qs) → Tells C W A → Tells (deeper C s) (inner_world W C.level qs h) (inner A as_ bs rs qs)

-- and nothing there speaks of parameters but those in scope
abbrev pub InnerIsOver : Type 0
InnerIsOver = (A : Around) (qs : List Quantified) (as_ : List Tyvar) (bs rs : bare.Binds) → IsOver A → IsOver (inner A as_ bs rs qs)

-- Afterwards a type with no bound variables is general in each world: types put for the parameters in it are types put for them in what it stands for.
abbrev pub OpenTypesAreGeneral : Type 0
OpenTypesAreGeneral = (l : ℕ) (qs : List Quantified) (T : State) → l < dead_level → IsTidy T l → are_new qs [] ≡ true
    → ((v : ℕ) → in_scope qs v ≡ true → in_scope (general_in T) v ≡ true) → (W : World) → Comes T W → (A : Around) → A.parameters ≡ W.parameters l
    → (k : ℕ) → HasGeneral T qs k → AreOpen T k → Over A.names (type_of W k) → over (qs ++ A.parameters) (type_of W k) ≡ true
    → (has : Bool) → (has ≡ false → over A.parameters (type_of W k) ≡ true) → IsGeneral W A qs k has

-- A type with no bound variables is one that was generalised, behind the end of its declaration.
abbrev pub OpenTypesAreHeld : Type 0
OpenTypesAreHeld = (l : ℕ) (qs : List Quantified) (S T : State) → Ends l qs S T → (k : ℕ) → HasType S k → AreOpen S k → HasGeneral T qs k

-- A declaration with its steps from where it begins to where it has ended is a step of the state around it.
abbrev pub DeclarationsGrow : Type 0
DeclarationsGrow = (l : ℕ) (qs : List Quantified) (R S T U : State) → Enters R S → Grows S T → Ends l qs T U → IsTidy R l → IsTidy U l → Grows R U

-- Inside it the variables made before are those of the declarations around, or done with.
abbrev pub EarlierAreOuter : Type 0
EarlierAreOuter = (l : ℕ) (R S T : State) → Enters R S → Grows S T → IsTidy R l → AreOuter T l (made R)

-- Where it begins a tidy state is so inside a declaration more, and types are types.
abbrev pub EnteredIsTidy : Type 0
EnteredIsTidy = (l : ℕ) (R S : State) → suc l < dead_level → Enters R S → IsTidy R l → IsTidy S (suc l)

abbrev pub EnteredTypesStay : Type 0
EnteredTypesStay = (R S : State) → Enters R S → (k : ℕ) → HasType R k → HasType S k

-- And what it has of a context it has of one inside, behind further steps, where the types of the type variables in scope there are its own.
abbrev pub ContextsAreInside : Type 0
ContextsAreInside = (C : Context) (s : TypeScope) (R S T : State) → suc R.level < dead_level → Enters R S → Grows S T → IsContext R C → s.types ≡ C.types.types
    → AllByRecursion (λ b. HasType T b.1) s.tyvars → IsContext T (deeper C s)

-- A state without variables is tidy.
abbrev pub NewIsTidy : Type 0
NewIsTidy = (S : State) (l : ℕ) → l < dead_level → made S ≡ 0 → general_in S ≡ [] → IsTidy S l
