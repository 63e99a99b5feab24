-- What identifiers stand for in the program: an environment of the shape of the dynamic one, the latest first. The initial scope is a view of the table of
-- the initial basis.
use Rattle.std.specs.Prelude.{ℕ, Bool, true, false, List, [], ◌∷◌, Option, Some, None, option_map, option_and_then, nat_eq, if◌then◌else◌}
use Rattle.mlc_names.specs.StandardWords.{word_true, word_false, word_nil, word_cons}
use Rattle.mlc_prims.specs.declared.basis.BasisPrimitive.{BasisPrimitive}
use Rattle.core_rules.specs.of_sml_tree.Terminal.{LongVid}
use Rattle.core_rules.specs.of_sml_tree.declared.ident.Vid.{Vid}
use Rattle.core_rules.specs.of_sml_tree.declared.ident.Vid.TheVariants.{Named}
use Rattle.core_rules.specs.of_sml_tree.declared.ident.BuiltIn.{BuiltIn}
use Rattle.core_rules.specs.of_sml_tree.declared.ident.BuiltIn.TheVariants.{True, False, Nil, Cons}
use Rattle.core_rules.specs.of_sml_tree.BareTree.{LongIdAt, TypeBind}
use Rattle.core_rules.specs.Words.{same_vid}
use Rattle.core_rules.specs.Values.{Con, built, declared}
use Rattle.core_rules.specs.Values as source
use Rattle.core_rules.specs.Restrictions.{is_kept}
use Rattle.core_rules.specs.Initial.{Entry, TypeEntry, Members, entries, type_rows, initial_members, prelude_members}
use Rattle.ir_poly.specs.Prog.{Exc, fixed}

-- The number of a constructor is that of its identifier. One that binds a kept identifier has none, and no restriction allows it.

abbrev pub built_number : BuiltIn → ℕ
built_number True = word_true
built_number False = word_false
built_number Nil = word_nil
built_number Cons = word_cons

abbrev pub con_number : Con → Option ℕ
con_number (built b) = Some (built_number b)
con_number (declared (Named x)) = if is_kept (Named x) then None else Some x
con_number (declared v) = None

-- what an identifier stands for
pub data Denotes : Type 0 where
  variable : ℕ → Denotes
  constructor : ℕ → Denotes
  -- the constructor `ref`
  reference : Denotes
  exception : Exc → Denotes
  primitive : BasisPrimitive → Denotes

-- values, type constructors with the scope of their constructors, and structures
pub data Scope : Type 0 where
  empty : Scope
  scoped : Vid → Denotes → Scope → Scope
  typed_by : ℕ → Scope → Scope → Scope
  inside : ℕ → Scope → Scope → Scope

abbrev pub plus_scope : Scope → Scope → Scope
plus_scope s empty = s
plus_scope s (scoped x d r) = scoped x d (plus_scope s r)
plus_scope s (typed_by x c r) = typed_by x c (plus_scope s r)
plus_scope s (inside x c r) = inside x c (plus_scope s r)

abbrev pub denotes_in : Scope → Vid → Option Denotes
denotes_in empty x = None
denotes_in (scoped y d s) x = if same_vid x y then Some d else denotes_in s x
denotes_in (typed_by y c s) x = denotes_in s x
denotes_in (inside y c s) x = denotes_in s x

abbrev pub typed_in : Scope → ℕ → Option Scope
typed_in empty x = None
typed_in (scoped y d s) x = typed_in s x
typed_in (typed_by y c s) x = if nat_eq x y then Some c else typed_in s x
typed_in (inside y c s) x = typed_in s x

abbrev pub inside_in : Scope → ℕ → Option Scope
inside_in empty x = None
inside_in (scoped y d s) x = inside_in s x
inside_in (typed_by y c s) x = inside_in s x
inside_in (inside y c s) x = if nat_eq x y then Some c else inside_in s x

-- long identifiers

abbrev pub along_scope : Scope → List ℕ → Option Scope
along_scope s [] = Some s
along_scope s (q ∷ qs) = option_and_then (λ d. along_scope d qs) (inside_in s q)

abbrev pub long_denotes_in : Scope → LongVid → Option Denotes
long_denotes_in s x = option_and_then (λ d. denotes_in d x.vid) (along_scope s x.qualifiers)

abbrev pub long_typed_in : Scope → LongIdAt → Option Scope
long_typed_in s x = option_and_then (λ d. typed_in d x.long.id) (along_scope s x.long.qualifiers)

abbrev pub long_inside_in : Scope → LongIdAt → Option Scope
long_inside_in s x = option_and_then (λ d. inside_in d x.long.id) (along_scope s x.long.qualifiers)

-- the scope that `open` makes
abbrev pub opened_scope : Scope → List LongIdAt → Option Scope
opened_scope s [] = Some empty
opened_scope s (x ∷ xs) = option_and_then (λ d. option_map (plus_scope d) (opened_scope s xs)) (long_inside_in s x)

-- an identifier that a pattern binds, and does not match
abbrev pub is_free_in : Option Denotes → Bool
is_free_in None = true
is_free_in (Some (variable n)) = true
is_free_in (Some (primitive p)) = true
is_free_in (Some d) = false

-- abbreviations of types have no constructors
abbrev pub types_scope : List TypeBind → Scope
types_scope [] = empty
types_scope (b ∷ bs) = typed_by b.tycon empty (types_scope bs)

-- The initial basis

-- no row has a value of another kind
abbrev pub denotes_of : source.Value → Denotes
denotes_of (source.con (built b)) = constructor (built_number b)
denotes_of (source.exn n) = exception (fixed n)
denotes_of (source.primitive q) = primitive q
denotes_of v = reference

abbrev pub rows_scope : List Entry → Scope
rows_scope [] = empty
rows_scope (r ∷ rs) = scoped r.vid (denotes_of r.value) (rows_scope rs)

abbrev pub type_rows_scope : List TypeEntry → Scope
type_rows_scope [] = empty
type_rows_scope (t ∷ ts) = typed_by t.tycon (rows_scope t.constructors) (type_rows_scope ts)

abbrev pub members_scope : Members → Scope
members_scope [] = empty
members_scope (m ∷ ms) = inside m.0 (rows_scope m.1) (members_scope ms)

abbrev pub basis_scope : Members → Scope
basis_scope ms = plus_scope (members_scope ms) (plus_scope (type_rows_scope type_rows) (rows_scope entries))

abbrev pub initial_scope : Scope
initial_scope = basis_scope initial_members

-- the one that the prelude sees
abbrev pub prelude_scope : Scope
prelude_scope = basis_scope prelude_members
