-- A context with what comes into scope.
use Rattle.std.specs.Prelude.{◌≡◌, ℕ, List, [], ◌∷◌, ◌++◌, map, Option, Some, None, nat_eq, if◌then◌else◌}
use Rattle.std.specs.Option.{option_or}
use Rattle.sml_tree.specs.declared.ident.Vid.{Vid}
use Rattle.sml_tree.specs.declared.ident.Vid.TheVariants.{Named, Equals, Fresh}
use Rattle.vid_scope.specs.Entries.{with_entries}
use Rattle.core_rules.specs.Restrictions.{may_construct}
use Rattle.elab_types.specs.declared.scope.TypeEntry.{TypeEntry}
use Rattle.elab_types.specs.declared.scope.TypeScope.{TypeScope}
use Rattle.closed_types.specs.of_elab_steps.Growing.{Begins}
use Rattle.exp_forms.specs.of_elab_context.declared.context.Context.{Context}
use Rattle.exp_forms.specs.of_elab_context.declared.entry.Entry.{Entry}

-- identifiers by their names
abbrev pub named_vids : List ℕ → List Vid
named_vids = map Named

-- the name of an identifier that a constructor or an exception may have
abbrev pub constructing_name : Vid → Option ℕ
constructing_name (Named x) = if may_construct (Named x) then Some x else None
constructing_name Equals = None
constructing_name (Fresh k) = None

-- the last of a type constructor
abbrev pub last_at : List (ℕ × TypeEntry) → ℕ → Option TypeEntry
last_at [] x = None
last_at (t ∷ ts) x = option_or (last_at ts x) (if nat_eq x t.0 then Some t.1 else None)

-- in front of others, the last in front
abbrev pub types_onto : List (ℕ × TypeEntry) → List (ℕ × TypeEntry) → List (ℕ × TypeEntry)
types_onto s [] = s
types_onto s (t ∷ ts) = types_onto (t ∷ s) ts

abbrev pub type_scope : List (ℕ × ℕ) → List (ℕ × TypeEntry) → TypeScope
type_scope tyvars types = record { tyvars = tyvars; types = types }

abbrev pub with_types : Context → List (ℕ × TypeEntry) → Context
with_types C ts = record C { types = type_scope C.types.tyvars (types_onto C.types.types ts) }

-- new is old with others in front
pub record HasFront {A : Type 0} (old new : List A) : Type 0 where
  pub own : List A
  pub is : new ≡ own ++ old

-- D has what C has, with these identifiers and type constructors, and may have further schemes and type names, with their numbers in the program
pub record Adds (C D : Context) (es : List (Vid × Entry)) (ts : List (ℕ × TypeEntry)) : Type 0 where
  pub values : D.values ≡ with_entries C.values es
  pub structures : D.structures ≡ C.structures
  pub members : D.members.items ≡ C.members.items
  pub tyvars : D.types.tyvars ≡ C.types.tyvars
  pub types : D.types.types ≡ types_onto C.types.types ts
  pub schemes : Begins C.schemes.items D.schemes.items
  pub level : D.level ≡ C.level
  pub rest : D ≡ record C { values = D.values; types = D.types; schemes = D.schemes; names = D.names; naming = D.naming; numbers = D.numbers }
  pub numbers : HasFront C.numbers D.numbers
