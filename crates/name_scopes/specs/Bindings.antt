-- What may be bound together, and where it is told that it may not.
use Rattle.std.specs.Prelude.{◌≡◌, Bool, false, not, ◌&&◌, List, ◌++◌, map, Option, Some, None}
use Rattle.std.specs.List.{Contains, list_all}
use Rattle.mlc_base.specs.declared.place.Place.{Place}
use Rattle.sml_tree.specs.BareTree as bare
use Rattle.sml_tree.specs.Derived.{function_binds}
use Rattle.sml_tree.specs.Phrases.{Phrase, dec}
use Rattle.sml_tree.specs.TreeOf.{bind_of, binds_of, function_of}
use Rattle.sml_tree.specs.declared.ident.Tyvar.{Tyvar}
use Rattle.sml_tree.specs.declared.ident.Vid.{Vid}
use Rattle.sml_tree.specs.declared.tree.Bind.{Bind}
use Rattle.sml_tree.specs.declared.tree.Function.{Function}
use Rattle.core_rules.specs.Restrictions.{distinct, is_kept}
use Rattle.core_rules.specs.Words.{same_vid}
use Rattle.name_scopes.specs.declared.sought.Sought.{Sought}
use Rattle.name_scopes.specs.declared.sought.What.{What}

-- this is looked for, at one of these places
pub record AsksOne (s : Sought) (w : What) (ps : List Place) : Type 0 where
  pub what : s.what ≡ w
  pub is : Contains ps s.place

-- a constructor or an exception, by what a scope of the code tells of it
abbrev pub is_no_variable : Option Bool → Bool
is_no_variable None = false
is_no_variable (Some variable) = not variable

-- identifiers of a `val`, the last of them behind `rec`: none of them twice, and of the last none that nothing may bind
abbrev pub are_proper : List Vid → List Vid → Bool
are_proper vs ws = distinct same_vid (vs ++ ws) && list_all (λ x. not (is_kept x)) ws

abbrev pub val_phrase : Place → Place → List Tyvar → List Bind → List Bind → Phrase
val_phrase p q as_ bs rs = dec (bare.val_dec p q as_ (binds_of (map bind_of bs)) (binds_of (map bind_of rs)))

abbrev pub fun_phrase : Place → Place → List Tyvar → List Function → Phrase
fun_phrase p q as_ gs = dec (bare.val_dec p q as_ bare.no_binds (function_binds (map function_of gs)))
