-- Types with their bound variables resolved.
use Rattle.std.specs.Prelude.{◌≡◌, ◌<◌, ℕ, true, List, length}
use Rattle.ty_core.specs.declared.scheme.Quantified.{Quantified}
use Rattle.ty_table.specs.TypeAt.{type_at}
use Rattle.ty_solve.specs.Substitution.{is_below}
use Rattle.ty_instance.specs.Images.{IsResolved}
use Rattle.elab_state.specs.States.{types_in, made, said_in, limit_in}
use Rattle.elab_state.specs.declared.state.State.{State}
use Rattle.elab_steps.specs.Growing.{Begins, HasGeneral, HasType}
use Rattle.general_worlds.specs.Tidy.{AreOpen, Ends}

-- k is a type over the variables of the state, also over such as are done with
pub record IsMade (S : State) (k : ℕ) : Type 0 where
  pub held : k < length (types_in S)
  pub below : is_below (made S) (type_at (types_in S) k) ≡ true

-- T has more types than S; its variables are the same, and what is said of them
pub record KeepsVariables (S T : State) : Type 0 where
  pub types : Begins (types_in S) (types_in T)
  pub made : made T ≡ made S
  pub said : said_in T ≡ said_in S
  pub limits : (v : ℕ) → limit_in T v ≡ limit_in S v

-- and r is what k comes to
pub record Settles (S T : State) (k r : ℕ) : Type 0 where
  pub keeps : KeepsVariables S T
  pub is : IsMade T r
  pub resolved : IsResolved (said_in S) (type_at (types_in S) k) (type_at (types_in T) r)

-- What a type of a declaration comes to, resolved behind its end, is a type that was generalised.
abbrev pub SettledTypesAreHeld : Type 0
SettledTypesAreHeld = (l : ℕ) (qs : List Quantified) (R S M T : State) (k r : ℕ) → Ends l qs R S → HasType R k → KeepsVariables S M → Settles M T k r
    → AreOpen T r → HasGeneral T qs r
