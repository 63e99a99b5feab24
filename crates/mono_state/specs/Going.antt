-- A walk that can go on, and one that goes on where it stood.
use Rattle.std.specs.Prelude.{◌≡◌, ◌≤◌, ℕ, List, [], ◌∷◌, ◌++◌, Some, length, slice_get, get_or, nat_eq, ⊤}
use Rattle.mlc_runs.specs.Passes.{greatest_expansion}
use Rattle.indexmap.specs.IndexMap.{get}
use Rattle.ty_core.specs.Types.{Typ}
use Rattle.ty_core.specs.declared.scheme.Quantified.{Quantified}
use Rattle.ty_table.specs.TypeAt.{AllBelow}
use Rattle.mono_close.specs.Closing.{standing, AreHeld, AreRight}
use Rattle.needed_scopes.specs.Scopes.{OpenScope, of_variable, of_binding}
use Rattle.needed_scopes.specs.Reads.{scopes_of, AreKept}
use Rattle.mono_state.specs.Seen.{Held, held_of, Longer}
use Rattle.mono_state.specs.declared.copier.Copier.{Copier}

-- a list of types of the table has this number
pub record IsHeld (H : Held) (k : ℕ) : Type 0 where
  pub numbers : List ℕ
  pub there : slice_get H.lists k ≡ Some numbers
  pub below : AllBelow (length H.types) numbers

abbrev pub AllHeld : Held → List ℕ → Type 0
AllHeld H [] = ⊤
AllHeld H (k ∷ ks) = IsHeld H k × AllHeld H ks

abbrev pub ScopesHeld : Held → List OpenScope → Type 0
ScopesHeld H [] = ⊤
ScopesHeld H (of_variable x ∷ l) = ScopesHeld H l
ScopesHeld H (of_binding vs u ks ∷ l) = IsHeld H u × AllHeld H ks × ScopesHeld H l

abbrev pub OwnHeld : Held → List (ℕ × ℕ) → Type 0
OwnHeld H [] = ⊤
OwnHeld H (e ∷ own) = IsHeld H e.1 × OwnHeld H own

-- what it names by number is there, the list of no types is number 0, and there are no more nodes than may be
pub record IsOpen (c : Copier) : Type 0 where
  pub scopes : AreKept c.scopes
  pub within : ScopesHeld (held_of c) (scopes_of c.scopes)
  pub slots : AreHeld (length c.closed) c.slots
  pub own : OwnHeld (held_of c) c.own
  pub nothing : slice_get c.lists 0 ≡ Some []
  pub few : c.nodes ≤ greatest_expansion

-- types of `sources` that were closed have their numbers
abbrev pub IsRight : List Typ → Copier → Type 0
IsRight sources c = AreRight sources (standing c.closed c.slots) (get nat_eq c.known) c.closed

-- it goes on in the same groups and under the same types for variables, with tables that have grown
pub record Goes (sources : List Typ) (old new : Copier) : Type 0 where
  pub open_ : IsOpen new
  pub right : IsRight sources old → IsRight sources new
  pub slots : new.slots ≡ old.slots
  pub own : new.own ≡ old.own
  pub longer : Longer (held_of old) (held_of new)

-- parameters with the types that are put for them, the first one in front
abbrev pub slots_for : List Quantified → List ℕ → List (ℕ × ℕ)
slots_for [] ns = []
slots_for (q ∷ qs) [] = []
slots_for (q ∷ qs) (n ∷ ns) = (q.variable, n) ∷ slots_for qs ns

-- the types of a list stand for parameters, and nothing was closed under them
pub record Stands (parameters : List Quantified) (list : ℕ) (old new : Copier) : Type 0 where
  pub open_ : IsOpen new
  pub right : (sources : List Typ) → IsRight sources new
  pub slots : new.slots ≡ slots_for parameters (get_or old.lists list []) ++ old.slots
  pub own : new.own ≡ old.own
  pub longer : Longer (held_of old) (held_of new)
