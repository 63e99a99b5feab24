-- A declaration of datatypes, done: what the state and the context have then.
use Rattle.std.specs.Prelude.{◌≡◌, ◌≤◌, ◌+◌, ◌++◌, ℕ, Bool, true, false, List, [], Option, length, slice_get, Some}
use Rattle.std.specs.List.{AllByRecursion}
use Rattle.ty_basis.specs.Types.{name_count}
use Rattle.sml_tree.specs.declared.ident.Vid.{Vid}
use Rattle.sml_tree.specs.BareTree.{DataBind}
use Rattle.core_rules.specs.Elaborated.{datatypes, names_of}
use Rattle.core_rules.specs.Objects as static
use Rattle.core_rules.specs.Restrictions.{distinct}
use Rattle.core_rules.specs.Words.{same_vid}
use Rattle.elab_typed.specs.Numbers.{AgreeBelow}
use Rattle.elab_types.specs.declared.scope.TypeEntry.{TypeEntry}
use Rattle.elab_state.specs.Namings.{IsAmong}
use Rattle.elab_state.specs.States.{types_in}
use Rattle.elab_state.specs.declared.state.State.{State}
use Rattle.elab_steps.specs.Instances.{IsScheme}
use Rattle.elab_steps.specs.World.{World, Comes}
use Rattle.elab_context.specs.Entries.{number_in}
use Rattle.elab_context.specs.declared.context.Context.{Context}
use Rattle.elab_context.specs.declared.entry.Entry.{Entry}
use Rattle.elab_context.specs.declared.entry.Entry.TheVariants.{Constructor, Reference, Initial, Primitive, Raised, Single, Own, General}
use Rattle.elab_context.specs.declared.entry.Scheme as code
use Rattle.elab_context.specs.Telling.{IsContext, IsHeld, vids_in}
use Rattle.closed_types.specs.Parameters.{ReadsTypes}
use Rattle.mlc_base.specs.declared.place.Place.{Place}
use Rattle.sml_tree.specs.BareTree as bare
use Rattle.elab_types.specs.Reading.{Holds}
use Rattle.dec_forms.specs.Bringing.{IsBringing}
use Rattle.dec_forms.specs.Entries.{Adds}
use Rattle.dec_forms.specs.declared.brought.Brought.{Brought}
use Rattle.datatype_forms.specs.Arguments.{data_structures, rows_at}
use Rattle.datatype_forms.specs.Best.{AreBestMarks, AreOnce}
use Rattle.datatype_forms.specs.Made.{AllMade}
use Rattle.datatype_forms.specs.Reading.{AreNameEntries}
use Rattle.datatype_forms.specs.Steps.{IsStep}

abbrev pub is_constructor : Entry → Bool
is_constructor (Constructor s n y) = true
is_constructor (Reference s) = false
is_constructor (Initial s n) = false
is_constructor (Primitive s q) = false
is_constructor (Raised n a) = false
is_constructor (Single t n) = false
is_constructor (Own t n) = false
is_constructor (General l t n o) = false

pub record AreDeclared (S : State) (C : Context) (bs : List DataBind) (T : State) (D : Context) (es : List (Vid × Entry))
    (ts : List (ℕ × TypeEntry)) : Type 0 where
  pub step : IsStep S T
  -- no type constructor and no constructor stands twice
  pub tycons : AreOnce bs
  pub vids : distinct same_vid (vids_in es) ≡ true
  pub adds : Adds C D es ts
  pub constructors : AllByRecursion (λ e. is_constructor e.1 ≡ true) es
  -- so many more type names, each with its number in the program
  pub wide : name_count ≤ C.names
  pub names : D.names ≡ C.names + length bs
  pub numbers : (W : World) → Comes T W → ((x : ℕ) → W.naming C.naming x ≡ number_in C x) → (x : ℕ) → W.naming D.naming x ≡ number_in D x
  pub agree : (W : World) → Comes T W → AgreeBelow C.names (W.naming C.naming) (W.naming D.naming)
  -- those that admit equality, and the arguments of the constructors
  pub marks : List Bool
  pub count : length marks ≡ length bs
  pub rows : List (List (Option ℕ))
  pub best : (c : static.Context) → c.names ≡ C.names → ReadsTypes (types_in S) C.types c → AreBestMarks c bs marks
  pub are : (c : static.Context) → c.names ≡ C.names → ReadsTypes (types_in S) C.types c
      → datatypes c marks bs ≡ Some (data_structures (names_of C.names marks bs) bs (rows_at (types_in T) rows))
  -- each type constructor is its type name and names its constructors, and each constructor has its scheme and its row
  pub entries : AreNameEntries (types_in T) bs (names_of C.names marks bs) ts
  pub made : (W : World) → Comes T W → ((x : ℕ) → W.naming D.naming x ≡ number_in D x)
      → AllMade D W (names_of C.names marks bs) bs (rows_at (types_in T) rows) es ts

-- the state has what is new in the context
pub record HasNew (T : State) (D : Context) (es : List (Vid × Entry)) : Type 0 where
  pub naming : IsAmong (length T.namings.items) D.naming
  pub schemes : (k : ℕ) (s : code.Scheme) → slice_get D.schemes.items k ≡ Some s → IsScheme T s.marks.items s.body
  pub entries : AllByRecursion (λ e. IsHeld T D e.1) es

-- then the declaration elaborates, and brings this into scope
abbrev pub DatatypesAreBringing : Type 0
DatatypesAreBringing = (S T : State) (C D : Context) (p : Place) (bs : List DataBind) (es : List (Vid × Entry)) (ts : List (ℕ × TypeEntry)) (old new : Brought)
    → Holds (types_in S) C.types → AreDeclared S C bs T D es ts → new.values.items ≡ old.values.items ++ es → new.types.items ≡ old.types.items ++ ts
    → IsBringing S C (bare.datatype_dec p bs) T D [] old new

-- and the state has the context behind it
abbrev pub DatatypesAreInContext : Type 0
DatatypesAreInContext = (S T : State) (C D : Context) (bs : List DataBind) (es : List (Vid × Entry)) (ts : List (ℕ × TypeEntry))
    → IsContext S C → AreDeclared S C bs T D es ts
    → HasNew T D es → IsContext T D
