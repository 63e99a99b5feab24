-- What stands at a place: identifiers that aren't bound there, or ones that are bound twice.
use Rattle.std.specs.Prelude.{◌≡◌, ℕ, zero, suc, Bool, false, List, [], ◌++◌, flat_map, map, IsTrue}
use Rattle.std.specs.List.{Contains}
use Rattle.mlc_base.specs.declared.place.Place.{Place}
use Rattle.sml_tree.specs.Phrases.{Phrase}
use Rattle.core_rules.specs.Unbound.{Unbound, value_at, tycon_at, structure_at, own_unbound, parts_in, Scoped}
use Rattle.core_rules.specs.Values.{Env}
use Rattle.name_scopes.specs.Covering.{Brings, Covers}
use Rattle.name_scopes.specs.Twice.{own_twice}
use Rattle.name_scopes.specs.declared.bound.Bound.{Bound}
use Rattle.name_scopes.specs.declared.sought.Sought.{Sought}
use Rattle.name_scopes.specs.declared.sought.What.{What}
use Rattle.name_scopes.specs.declared.sought.What.TheVariants as whats

abbrev pub place_of : Unbound → Place
place_of (value_at p x) = p
place_of (tycon_at p x) = p
place_of (structure_at p x) = p

-- this is looked for, at this place
pub record Asks (s : Sought) (w : What) (p : Place) : Type 0 where
  pub what : s.what ≡ w
  pub place : p ≡ s.place

-- one of these identifiers that aren't bound is what is looked for
pub record At (s : Sought) (us : List Unbound) : Type 0 where
  pub unbound : Unbound
  pub is : Contains us unbound
  pub place : place_of unbound ≡ s.place
  pub what : s.what ≡ whats.Unbound

-- the places of a phrase itself
abbrev pub places_of : What → Env → Phrase → List Place
places_of whats.Unbound e x = map place_of (own_unbound e x)
places_of whats.Twice e x = own_twice e x

abbrev pub own_places : Sought → Env → Phrase → List Place
own_places s e x = places_of s.what e x

-- and of what is in it, so many levels deep
abbrev pub found_to : Sought → ℕ → Env → Phrase → List Place
found_to s zero e x = []
found_to s (suc k) e x = own_places s e x ++ flat_map (λ t. found_to s k t.scope t.phrase) (parts_in e x)

-- what is looked for is in a phrase in an environment
pub record FoundAt (s : Sought) (e : Env) (x : Phrase) : Type 0 where
  pub levels : ℕ
  pub at : Contains (found_to s levels e x) s.place

-- the same of one of some phrases
pub record AnyAt (s : Sought) (ss : List Scoped) : Type 0 where
  pub scoped : Scoped
  pub is : Contains ss scoped
  pub at : FoundAt s scoped.scope scoped.phrase

-- What a walk through a phrase says: that it has come to what is looked for; else the scope is as it was.
pub record Walked (found : Bool) (old new : List Bound) (P : Env → Type 0) : Type 0 where
  pub right : IsTrue found → (e : Env) → Covers old e → P e
  pub same : found ≡ false → new ≡ old

-- what came into scope
pub record Brought (old new : List Bound) (names : Env → Env) : Type 0 where
  pub more : List Bound
  pub is : new ≡ more ++ old
  pub brings : (e : Env) → Covers old e → Brings more (names e)

-- the same of declarations: else what they bring is in scope
pub record Declared (found : Bool) (old new : List Bound) (P : Env → Type 0) (names : Env → Env) : Type 0 where
  pub right : IsTrue found → (e : Env) → Covers old e → P e
  pub brought : found ≡ false → Brought old new names
