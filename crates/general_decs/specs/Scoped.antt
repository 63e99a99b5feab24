-- Type variables that are scoped at a declaration, and its parameters for them.
use Rattle.std.specs.Prelude.{◌≡◌, ℕ, suc, List, [], ◌∷◌, ◌++◌, map, None, nat_eq}
use Rattle.std.specs.Map.{lookup}
use Rattle.ty_core.specs.Types.{var}
use Rattle.ty_core.specs.declared.scheme.Quantified.{Quantified}
use Rattle.sml_tree.specs.BareTree as bare
use Rattle.sml_tree.specs.declared.ident.Tyvar.{Tyvar}
use Rattle.core_rules.specs.Scoping.{scoped_at}
use Rattle.core_rules.specs.Typing.{mark_of}
use Rattle.elab_state.specs.States.{made}
use Rattle.elab_state.specs.declared.state.State.{State}
use Rattle.elab_steps.specs.Growing.{Always, Grows}
use Rattle.elab_steps.specs.World.{World}
use Rattle.elab_context.specs.declared.context.Context.{Context}
use Rattle.general_vals.specs.of_general_worlds.Inner.{deeper}
use Rattle.general_vals.specs.of_general_worlds.Tidy.{Enters}

-- the declaration scopes these
abbrev pub ScopesThese : Context → List Tyvar → bare.Binds → bare.Binds → List Tyvar → Type 0
ScopesThese C as_ bs rs scoped = scoped_at (map (λ a. a.0) C.types.tyvars) as_ bs rs ≡ scoped

-- its parameters for them, from the variable v on
abbrev pub tyvar_parameters : ℕ → List Tyvar → List Quantified
tyvar_parameters v [] = []
tyvar_parameters v (a ∷ as_) = record { variable = v; mark = mark_of a } ∷ tyvar_parameters (suc v) as_

-- they come first in a list
pub record IsLedBy (v : ℕ) (as_ : List Tyvar) (qs : List Quantified) : Type 0 where
  pub rest : List Quantified
  pub is : qs ≡ tyvar_parameters v as_ ++ rest

-- new is old with others in front
pub record IsFurther (old new : List (ℕ × ℕ)) : Type 0 where
  pub own : List (ℕ × ℕ)
  pub is : new ≡ own ++ old

-- They came into scope one after the other, none of them there before, and stand for the variables from v on.
abbrev pub CameIntoScope : World → ℕ → List Tyvar → List (ℕ × ℕ) → List (ℕ × ℕ) → Type 0
CameIntoScope W v [] old new = new ≡ old
CameIntoScope W v (a ∷ as_) old new = (k : ℕ) × (W.raw k ≡ var v) × (lookup (nat_eq a.name) old ≡ None) × CameIntoScope W (suc v) as_ ((a.name, k) ∷ old) new

-- the same of their names alone
abbrev pub CameByName : List Tyvar → List (ℕ × ℕ) → List (ℕ × ℕ) → Type 0
CameByName [] old new = new ≡ old
CameByName (a ∷ as_) old new = (k : ℕ) × (lookup (nat_eq a.name) old ≡ None) × CameByName as_ ((a.name, k) ∷ old) new

-- a declaration begins: the context D is one deeper than C, with these type variables
pub record IsBegun (S : State) (C : Context) (scoped : List Tyvar) (T : State) (D : Context) : Type 0 where
  pub entered : State
  pub enters : Enters S entered
  pub grows : Grows entered T
  pub next : T.next ≡ S.next
  pub deep : D ≡ deeper C D.types
  pub types : D.types.types ≡ C.types.types
  pub further : IsFurther C.types.tyvars D.types.tyvars
  pub named : CameByName scoped C.types.tyvars D.types.tyvars
  pub tyvars : Always T (λ W. CameIntoScope W (made S) scoped C.types.tyvars D.types.tyvars)
