-- The scope of the initial basis.
use Rattle.std.specs.Prelude.{◌<◌, ℕ, Bool, false, List, [], ◌∷◌, ◌++◌, flat_map, length, map, Option, Some, None, ⊤}
use Rattle.mlc_names.specs.StandardWords.{standard_words}
use Rattle.sml_tree.specs.declared.ident.Vid.{Vid}
use Rattle.sml_tree.specs.declared.ident.Vid.TheVariants.{Named, Equals}
use Rattle.core_rules.specs.Initial.{Entry, TypeEntry, exceptions, primitives, type_rows, word_Int}
use Rattle.core_rules.specs.Match.{is_variable}
use Rattle.core_rules.specs.Words.{same_vid}
use Rattle.name_scopes.specs.declared.bound.Bound.{Bound}
use Rattle.name_scopes.specs.declared.bound.Bound.TheVariants.{Value, Tycon, Structure}
use Rattle.name_scopes.specs.declared.bound.Members.TheVariants.{Integers}
use Rattle.name_scopes.specs.declared.rows.Row.{Row}
use Rattle.name_scopes.specs.declared.rows.Row.TheVariants as row

abbrev pub vid_at : Option ℕ → Vid
vid_at (Some w) = Named w
vid_at None = Equals

-- what a row of the code binds
abbrev pub bound_of : Row → Bound
bound_of (row.Value o v) = Value (vid_at o) v
bound_of (row.Tycon w n) = Tycon w n
bound_of (row.Structure w s) = Structure w s

abbrev pub IsStandardWord : Option ℕ → Type 0
IsStandardWord (Some w) = w < length standard_words
IsStandardWord None = ⊤

abbrev pub IsStandard : Row → Type 0
IsStandard (row.Value o v) = IsStandardWord o
IsStandard (row.Tycon w n) = w < length standard_words
IsStandard (row.Structure w s) = w < length standard_words

-- whether it is this value identifier that is bound
abbrev pub is_value_of : Bound → Vid → Bool
is_value_of (Value y v) x = same_vid x y
is_value_of (Tycon y n) x = false
is_value_of (Structure y s) x = false

-- what the tables of the initial basis bind
abbrev pub entry_bound : Entry → Bound
entry_bound r = Value r.vid (is_variable r.status)

abbrev pub type_bounds : TypeEntry → List Bound
type_bounds t = Tycon t.tycon (length t.constructors) ∷ map entry_bound t.constructors

abbrev pub initial_bounds : List Bound
initial_bounds = flat_map type_bounds type_rows ++ (map entry_bound (exceptions ++ primitives) ++ (Structure word_Int Integers ∷ []))
