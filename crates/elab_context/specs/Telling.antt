-- What a context of the code tells of what is around a phrase, in a world.
use Rattle.std.specs.Prelude.{◌≡◌, ◌⊎◌, ◌<◌, ◌≤◌, ◌+◌, ℕ, Bool, true, false, List, [], ◌∷◌, ◌++◌, map, length, Option, Some, None, option_map, nat_eq, nat_lt, slice_get, ⊤}
use Rattle.std.specs.List.{AllByRecursion}
use Rattle.std.specs.Map.{lookup}
use Rattle.mlc_prims.specs.declared.basis.BasisPrimitive.{BasisPrimitive}
use Rattle.ty_core.specs.Types.{Typ, var, con, name}
use Rattle.ty_core.specs.Marks.{is_inhabited}
use Rattle.ty_core.specs.Statics.{TypeFunction, replace, variables}
use Rattle.ty_core.specs.declared.mark.Mark.TheVariants.{Any}
use Rattle.ty_core.specs.declared.name.TyName.{TyName}
use Rattle.ty_core.specs.declared.scheme.Quantified.{Quantified}
use Rattle.ty_solve.specs.Substitution.{sub}
use Rattle.ty_basis.specs.Types.{name_count, exn_type}
use Rattle.ty_basis.specs.Primitives.{prim_type, primitive_type}
use Rattle.ty_core.specs.declared.env.Status.TheVariants as status
use Rattle.sml_tree.specs.Terminal.{LongVid}
use Rattle.sml_tree.specs.declared.ident.Vid.{Vid}
use Rattle.vid_scope.specs.of_core_rules.Objects.{at, monomorphic, Scheme, Over, Env, env, Values, no_structures, structure_map, TypeStructure}
use Rattle.vid_scope.specs.of_core_rules.Restrictions.{distinct}
use Rattle.vid_scope.specs.of_core_rules.Words.{same_vid}
use Rattle.vid_scope.specs.of_core_rules.Elaborated.{type_in}
use Rattle.vid_scope.specs.of_core_rules.Initial.{ref_row}
use Rattle.vid_scope.specs.of_core_rules.Typing.{all_general}
use Rattle.elab_steps.specs.of_ir_poly.Prog.{fixed, held}
use Rattle.elab_steps.specs.of_ir_poly.Types.{over, changed, find, constructor_of, initial_constructors, Constructor as ConRow}
use Rattle.elab_steps.specs.of_ir_poly.TestsChecked.{Known, of_type, own, alone_type, exception as exception_known}
use Rattle.elab_steps.specs.of_ir_poly.TestsChecked as checked
use Rattle.elab_steps.specs.of_core_elab.Scopes.{Denotes, variable, constructor, reference, exception, primitive, Scope, empty, scoped, long_denotes_in, inside_in, typed_in}
use Rattle.elab_steps.specs.of_ir_tables.Tables.{parameters_of, parameters_at}
use Rattle.elab_steps.specs.of_elab_typed.Numbers.{name_as, type_as, KeepsInitial}
use Rattle.elab_steps.specs.of_elab_typed.Contexts.{Kept, KeptValues, given, given_values, general, single, raised, kept_in, Around, IsOver, generic}
use Rattle.elab_steps.specs.of_elab_types.declared.scope.TypeEntry.{TypeEntry}
use Rattle.elab_steps.specs.of_elab_types.Reading.{entry_of as type_entry_of, AreKnown, Holds}
use Rattle.elab_steps.specs.of_elab_state.Namings.{IsAmong}
use Rattle.elab_steps.specs.of_elab_state.States.{types_in, made, dead_level}
use Rattle.elab_steps.specs.of_elab_state.declared.state.State.{State}
use Rattle.elab_steps.specs.Growing.{AreLive, HasGeneral, HasType}
use Rattle.elab_steps.specs.Instances.{IsScheme}
use Rattle.elab_steps.specs.Tidy.{IsTidy}
use Rattle.elab_steps.specs.World.{World, type_of}
use Rattle.elab_context.specs.Entries.{constructors_of, contents_at, entry_in, last_of, number_in}
use Rattle.elab_context.specs.Numbered.{IsNumbered}
use Rattle.elab_context.specs.declared.context.Context.{Context}
use Rattle.elab_context.specs.declared.entry.Entry.{Entry}
use Rattle.elab_context.specs.declared.entry.Entry.TheVariants.{Constructor, Reference, Initial, Primitive, Raised, Single, Own, General}
use Rattle.elab_context.specs.declared.entry.Scheme as code

-- the scheme of a number, in a world
abbrev pub scheme_of : World → Option code.Scheme → Scheme
scheme_of W None = record { marks = []; body = var 0 }
scheme_of W (Some s) = record { marks = s.marks.items; body = W.raw s.body }

abbrev pub scheme_at : Context → World → ℕ → Scheme
scheme_at C W k = scheme_of W (slice_get C.schemes.items k)

-- what is kept of an identifier
abbrev pub kept_of : Context → World → Entry → Kept
kept_of C W (Constructor s n y) = given (record { scheme = scheme_at C W s; status = status.Constructor })
kept_of C W (Reference s) = given (record { scheme = scheme_at C W s; status = status.Constructor })
kept_of C W (Initial s n) = given (record { scheme = scheme_at C W s; status = status.Exception })
kept_of C W (Primitive s q) = given (record { scheme = scheme_at C W s; status = status.Variable })
kept_of C W (Raised n a) = raised (option_map (type_of W) a)
kept_of C W (Single t n) = single (type_of W t)
kept_of C W (Own t n) = single (type_of W t)
kept_of C W (General l t n o) = general (W.reading.parameters l) (type_of W t)

-- what it denotes
abbrev pub denotes_of : Entry → Denotes
denotes_of (Constructor s n y) = constructor n
denotes_of (Reference s) = reference
denotes_of (Initial s n) = exception (fixed n)
denotes_of (Primitive s q) = primitive q
denotes_of (Raised n a) = exception (held n)
denotes_of (Single t n) = variable n
denotes_of (Own t n) = variable n
denotes_of (General l t n o) = variable n

-- what is known of its variable, if it has one
abbrev pub known_of : World → Around → Entry → Option (ℕ × Known)
known_of W A (Constructor s n y) = None
known_of W A (Reference s) = None
known_of W A (Initial s n) = None
known_of W A (Primitive s q) = None
known_of W A (Raised n a) = Some (n, exception_known (option_map (λ k. type_as A.number (type_of W k)) a))
known_of W A (Single t n) = Some (n, of_type (type_as A.number (type_of W t)))
known_of W A (Own t n) = Some (n, own (type_as A.number (type_of W t)))
known_of W A (General l t n true) = Some (n, checked.general (W.reading.parameters l) var (type_as A.number (type_of W t)))
known_of W A (General l t n false) = Some (n, of_type (type_as A.number (type_of W t)))

abbrev pub function_of : World → TypeEntry → TypeFunction
function_of W e = record { arity = e.arity; body = W.raw e.body }

-- a constructor: its scheme is the datatype at the parameters, or a function to it, and the program has it in a row
pub record IsConstructor (C : Context) (W : World) (s n : ℕ) (y : TyName) : Type 0 where
  pub argument : Option Typ
  pub general : all_general (scheme_at C W s).marks ≡ true
  pub body : (scheme_at C W s).body ≡ alone_type argument (con (name y) (variables 0 (length (scheme_at C W s).marks)))
  pub names : Over C.names (scheme_at C W s).body
  pub row : find W.table (name_as (W.naming C.naming) y) n
      ≡ Some (constructor_of (name_as (W.naming C.naming) y) n (option_map (type_as (W.naming C.naming)) argument))

-- a primitive: with its parameter, or without one
pub record IsPrimitive (C : Context) (W : World) (s : ℕ) (q : BasisPrimitive) : Type 0 where
  pub body : (scheme_at C W s).body ≡ primitive_type q
  pub marks : ((scheme_at C W s).marks ≡ (prim_type q).mark ∷ []) ⊎ (((scheme_at C W s).marks ≡ []) × ((prim_type q).mark ≡ Any))

-- a type over the type names and the parameters that are in use
pub record IsInUse (A : Around) (t : Typ) : Type 0 where
  pub names : Over A.names t
  pub parameters : over A.parameters t ≡ true

abbrev pub IsInUseIf : World → Around → Option ℕ → Type 0
IsInUseIf W A None = ⊤
IsInUseIf W A (Some k) = IsInUse A (type_of W k)

-- a type over parameters of its own too, where it has any of them; they are variables of the table's type, and no other variable of it stands for a type
-- that has one
pub record IsGeneral (W : World) (A : Around) (qs : List Quantified) (k : ℕ) (has : Bool) : Type 0 where
  pub marks : all_general (map (λ q. q.mark) qs) ≡ true
  pub names : Over A.names (type_of W k)
  pub body : over (qs ++ A.parameters) (type_of W k) ≡ true
  pub parts : (ts : List Typ) → sub (changed qs ts W.value) (W.raw k) ≡ replace (changed qs ts var) (type_of W k)
  pub none : has ≡ false → (ts : List Typ) → replace (changed qs ts var) (type_of W k) ≡ type_of W k

-- what an identifier is has what the rules for it ask
abbrev pub IsFit : Context → World → Around → Entry → Type 0
IsFit C W A (Constructor s n y) = IsConstructor C W s n y
IsFit C W A (Reference s) = scheme_at C W s ≡ ref_row.scheme
IsFit C W A (Initial s n) = (scheme_at C W s ≡ monomorphic exn_type) × (nat_lt n 7 ≡ true)
IsFit C W A (Primitive s q) = IsPrimitive C W s q
IsFit C W A (Raised n a) = IsInUseIf W A a
IsFit C W A (Single t n) = IsInUse A (type_of W t)
IsFit C W A (Own t n) = IsInUse A (type_of W t)
IsFit C W A (General l t n o) = IsGeneral W A (W.reading.parameters l) t o

-- Identifiers with what they are, each in front of the next: the identifiers, what is kept of them, and the scope that they make.
abbrev pub vids_in : List (Vid × Entry) → List Vid
vids_in = map (λ e. e.0)

abbrev pub kept_entries : Context → World → List (Vid × Entry) → KeptValues
kept_entries C W = map (λ e. (e.0, kept_of C W e.1))

abbrev pub scope_of_entries : List (Vid × Entry) → Scope
scope_of_entries [] = empty
scope_of_entries (e ∷ es) = scoped e.0 (denotes_of e.1) (scope_of_entries es)

-- a type constructor that has this type structure, and in the program this scope, has these constructors
pub record HasConstructors (C : Context) (W : World) (A : Around) (e : TypeEntry) (found : Option TypeStructure) (scope : Option Scope) : Type 0 where
  pub structure : TypeStructure
  pub is : found ≡ Some structure
  pub values : given_values structure.constructors ≡ kept_entries C W (constructors_of C e)
  pub scopes : scope ≡ Some (scope_of_entries (constructors_of C e))
  pub once : distinct same_vid (vids_in (constructors_of C e)) ≡ true
  pub fit : AllByRecursion (λ c. IsFit C W A c.1) (constructors_of C e)
  -- they have schemes of the context
  pub within : e.constructors.first + e.constructors.count ≤ length C.schemes.items

-- a structure with this environment, and in the program this scope, has value identifiers alone, the last of each as it is found
pub record HasContents (C : Context) (q : ℕ) (es : List (Vid × Entry)) (found : Option Env) (scope : Option Scope) : Type 0 where
  pub values : Values
  pub is : found ≡ Some (env values [] no_structures)
  pub inner : Scope
  pub scopes : scope ≡ Some inner
  pub untyped : (x : ℕ) → typed_in inner x ≡ None
  pub alone : (x : ℕ) → inside_in inner x ≡ None
  pub entries : (x : Vid) → last_of es x ≡ entry_in C (q ∷ []) x

pub record Tells (C : Context) (W : World) (A : Around) : Type 0 where
  pub names : A.names ≡ C.names
  pub number : A.number ≡ W.naming C.naming
  pub numbers : (x : ℕ) → W.naming C.naming x ≡ number_in C x
  -- the names of the basis have their own numbers, and the table has its constructors
  pub initial : KeepsInitial A.number
  pub built : (y : TyName) (c : ℕ) (row : ConRow) → find initial_constructors y c ≡ Some row → find W.table y c ≡ Some row
  pub parameters : A.parameters ≡ W.parameters C.level
  pub values : (x : LongVid) → kept_in A.env x ≡ option_map (kept_of C W) (entry_in C x.qualifiers x.vid)
  pub denotes : (x : LongVid) → long_denotes_in A.scope x ≡ option_map denotes_of (entry_in C x.qualifiers x.vid)
  pub fit : (x : LongVid) (e : Entry) → entry_in C x.qualifiers x.vid ≡ Some e → IsFit C W A e
  pub known : (x : LongVid) (e : Entry) (n : ℕ) (k : Known) → entry_in C x.qualifiers x.vid ≡ Some e → known_of W A e ≡ Some (n, k)
      → checked.at A.known n ≡ Some k
  pub tyvars : (a : ℕ) → at nat_eq A.tyvars a ≡ option_map (type_of W) (lookup (nat_eq a) C.types.tyvars)
  pub types : (qs : List ℕ) (x : ℕ) → option_map (λ y. y.function) (type_in (generic A).env qs x) ≡ option_map (function_of W) (type_entry_of C.types qs x)
  pub constructors : (x : ℕ) (e : TypeEntry) → type_entry_of C.types [] x ≡ Some e → HasConstructors C W A e (at nat_eq A.env.types x) (typed_in A.scope x)
  pub structures : (q k : ℕ) → lookup (nat_eq q) C.structures ≡ Some k
      → HasContents C q (contents_at C k) (at nat_eq (structure_map A.env.structures) q) (inside_in A.scope q)
  -- what is around speaks of no parameters but those in scope
  pub over : IsOver A

-- where the context tells of something, the identifier isn't bound in it
abbrev pub IsUnboundIn : Context → LongVid → Type 0
IsUnboundIn C x = (W : World) (A : Around) → Tells C W A → kept_in A.env x ≡ None

-- the types of an identifier are the state's, and its scheme the context's
abbrev pub IsHeldIf : State → Option ℕ → Type 0
IsHeldIf S None = ⊤
IsHeldIf S (Some t) = HasType S t

-- a list of parameters is the state's, and their marks allow types
pub record HasList (S : State) (l : ℕ) : Type 0 where
  pub held : l < length (parameters_of S.tables)
  pub inhabited : AllByRecursion (λ q. is_inhabited q.mark ≡ true) (parameters_at (parameters_of S.tables) l)

abbrev pub IsHeld : State → Context → Entry → Type 0
IsHeld S C (Constructor s n y) = s < length C.schemes.items
IsHeld S C (Reference s) = s < length C.schemes.items
IsHeld S C (Initial s n) = s < length C.schemes.items
IsHeld S C (Primitive s q) = s < length C.schemes.items
IsHeld S C (Raised n a) = IsHeldIf S a
IsHeld S C (Single t n) = HasType S t
IsHeld S C (Own t n) = HasType S t
IsHeld S C (General l t n o) = HasGeneral S (parameters_at (parameters_of S.tables) l) t × HasList S l

-- what a state has of a context: new variables may be made in it, and annotations read
pub record IsContext (S : State) (C : Context) : Type 0 where
  -- the names of the basis are in use
  pub wide : name_count ≤ C.names
  pub deep : C.level < dead_level
  pub naming : IsAmong (length S.namings.items) C.naming
  pub holds : Holds (types_in S) C.types
  pub known : AreKnown (made S) (types_in S) C.types
  pub schemes : (k : ℕ) (s : code.Scheme) → slice_get C.schemes.items k ≡ Some s → IsScheme S s.marks.items s.body
  pub entries : (qs : List ℕ) (x : Vid) (e : Entry) → entry_in C qs x ≡ Some e → IsHeld S C e
  -- the program's variables of what is in scope are there
  pub numbered : IsNumbered S.next C
  -- the types of type variables have no variable that is done with
  pub live : AreLive S C.types
  -- the state is as deep or deeper, and tidy
  pub level : C.level ≤ S.level
  pub tidy : IsTidy S S.level
