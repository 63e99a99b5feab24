-- What the code has of the initial basis.
use Rattle.std.specs.Prelude.{◌≡◌, ◌<◌, ℕ, zero, suc, List, [], ◌∷◌, ◌++◌, map, length, Option, Some, None, ⊤}
use Rattle.mlc_names.specs.StandardWords.{standard_words, word_unit, word_int, word_word, word_char, word_string, word_bool, word_list, word_ref, word_exn, word_true, word_false, word_nil, word_cons, word_Match, word_Bind, word_Overflow, word_Div, word_Subscript, word_Size, word_Chr, word_plus, word_minus, word_times, word_div, word_mod, word_negate, word_abs, word_less_than, word_at_most, word_greater_than, word_at_least, word_assign, word_Prim, word_quot, word_rem, word_andb, word_orb, word_xorb, word_notb, word_shl, word_shr, word_sar, word_toInt, word_toIntX, word_fromInt, word_ord, word_chr, word_text, word_size, word_sub, word_part, word_cat, word_str, word_print}
use Rattle.mlc_prims.specs.declared.basis.BasisPrimitive.TheVariants as prim
use Rattle.sml_tree.specs.declared.ident.Vid.{Vid}
use Rattle.sml_tree.specs.declared.ident.Vid.TheVariants.{Named, Equals}
use Rattle.sml_tree.specs.declared.ident.BuiltIn.TheVariants.{True, False, Nil, Cons}
use Rattle.ty_core.specs.Types.{Typ, var, con, none, more, name}
use Rattle.ty_core.specs.declared.mark.Mark.{Mark}
use Rattle.ty_core.specs.declared.name.TyName.{TyName}
use Rattle.ty_basis.specs.Types.{int_name, word_name, char_name, string_name, ref_name, exn_name, bool_name, list_name, unit_type}
use Rattle.ty_table.specs.TypeAt.{type_at, AllBelow}
use Rattle.core_rules.specs.Objects.{Scheme}
use Rattle.core_rules.specs.Initial.{entries, hidden, integers, word_Int, word_toString}
use Rattle.core_elab.specs.Scopes.{built_number}
use Rattle.initial_types.specs.Schemes.{bodies_of, marks_of, schemes_in, schemes_of}
use Rattle.initial_types.specs.declared.row.Scheme as basis
use Rattle.vid_scope.specs.declared.vids.VidScope.{VidScope}
use Rattle.elab_types.specs.Reading.{left_at}
use Rattle.elab_types.specs.declared.scope.SchemeRange.{SchemeRange}
use Rattle.elab_types.specs.declared.scope.TypeEntry.{TypeEntry}
use Rattle.elab_context.specs.declared.context.Context.{Context}
use Rattle.elab_context.specs.declared.entry.Built.{Built}
use Rattle.elab_context.specs.declared.entry.Built.TheVariants.{Ref, Declared}
use Rattle.elab_context.specs.declared.entry.Entry.{Entry}
use Rattle.elab_context.specs.declared.entry.Entry.TheVariants as entry
use Rattle.elab_context.specs.declared.entry.Scheme as code
use Rattle.basis_context.specs.declared.rows.Kind.{Kind}
use Rattle.basis_context.specs.declared.rows.Kind.TheVariants.{Reference, Constructor, Exception, Primitive}
use Rattle.basis_context.specs.declared.tables.Basis.{Basis}

-- what an identifier with the scheme of a number is
abbrev pub entry_at : Kind → ℕ → Entry
entry_at Reference s = entry.Reference s
entry_at (Constructor b y) s = entry.Constructor s (built_number b) y
entry_at (Exception n) s = entry.Initial s n
entry_at (Primitive q) s = entry.Primitive s q

-- the constructor that it is, if it is one
abbrev pub built_at : Kind → Option Built
built_at Reference = Some Ref
built_at (Constructor b y) = Some (Declared (built_number b) y)
built_at (Exception n) = None
built_at (Primitive q) = None

-- identifiers by the numbers of their words; no word is `=`
abbrev pub Rows : Type 0
Rows = List (Option ℕ × Kind)

abbrev pub vid_at : Option ℕ → Vid
vid_at (Some w) = Named w
vid_at None = Equals

abbrev pub IsStandard : Option ℕ → Type 0
IsStandard (Some w) = w < length standard_words
IsStandard None = ⊤

-- a word's entry in front, and that of `=`
abbrev pub named_with : Option ℕ → Entry → List (ℕ × Entry) → List (ℕ × Entry)
named_with (Some w) e es = (w, e) ∷ es
named_with None e es = es

abbrev pub equal_with : Option ℕ → Entry → List (ℕ × Entry) → List (ℕ × Entry)
equal_with (Some w) e es = es
equal_with None e es = (0, e) ∷ es

-- what words are, and what `=` is, with schemes from the k-th on
abbrev pub named_rows : Rows → ℕ → List (ℕ × Entry)
named_rows [] k = []
named_rows (r ∷ rs) k = named_with r.0 (entry_at r.1 k) (named_rows rs (suc k))

abbrev pub equal_rows : Rows → ℕ → List (ℕ × Entry)
equal_rows [] k = []
equal_rows (r ∷ rs) k = equal_with r.0 (entry_at r.1 k) (equal_rows rs (suc k))

-- what rows have in their order, with schemes from the k-th on
abbrev pub listed_rows : Rows → ℕ → List (Vid × Entry)
listed_rows [] k = []
listed_rows (r ∷ rs) k = (vid_at r.0, entry_at r.1 k) ∷ listed_rows rs (suc k)

-- which of them are constructors
abbrev pub row_constructors : Rows → List (Option Built)
row_constructors = map (λ r. built_at r.1)

abbrev pub row_list : Rows
row_list = (Some word_ref, Reference) ∷ (Some word_true, Constructor True bool_name) ∷ (Some word_false, Constructor False bool_name)
    ∷ (Some word_nil, Constructor Nil list_name) ∷ (Some word_cons, Constructor Cons list_name) ∷ (Some word_Match, Exception 0)
    ∷ (Some word_Bind, Exception 1) ∷ (Some word_Overflow, Exception 2) ∷ (Some word_Div, Exception 3) ∷ (Some word_Subscript, Exception 4)
    ∷ (Some word_Size, Exception 5) ∷ (Some word_Chr, Exception 6) ∷ (Some word_plus, Primitive prim.Add) ∷ (Some word_minus, Primitive prim.Subtract)
    ∷ (Some word_times, Primitive prim.Multiply) ∷ (Some word_div, Primitive prim.Divide) ∷ (Some word_mod, Primitive prim.Modulo)
    ∷ (Some word_negate, Primitive prim.Negate) ∷ (Some word_abs, Primitive prim.Absolute) ∷ (Some word_less_than, Primitive prim.Less)
    ∷ (Some word_at_most, Primitive prim.LessEqual) ∷ (Some word_greater_than, Primitive prim.Greater) ∷ (Some word_at_least, Primitive prim.GreaterEqual)
    ∷ (None, Primitive prim.Equals) ∷ (Some word_assign, Primitive prim.Assign) ∷ []

abbrev pub integer_list : Rows
integer_list = (Some word_toString, Primitive prim.TextOf) ∷ (Some word_quot, Primitive prim.Quotient) ∷ (Some word_rem, Primitive prim.Remainder) ∷ []

-- the members of the structure `Prim`
abbrev pub hidden_list : Rows
hidden_list = (Some word_quot, Primitive prim.Quotient) ∷ (Some word_rem, Primitive prim.Remainder) ∷ (Some word_andb, Primitive prim.BitsAnd)
    ∷ (Some word_orb, Primitive prim.BitsOr) ∷ (Some word_xorb, Primitive prim.BitsXor) ∷ (Some word_notb, Primitive prim.BitsNot)
    ∷ (Some word_shl, Primitive prim.ShiftLeft) ∷ (Some word_shr, Primitive prim.ShiftRight) ∷ (Some word_sar, Primitive prim.ShiftSigned)
    ∷ (Some word_toInt, Primitive prim.ToInt) ∷ (Some word_toIntX, Primitive prim.ToIntSigned) ∷ (Some word_fromInt, Primitive prim.FromInt)
    ∷ (Some word_ord, Primitive prim.CharCode) ∷ (Some word_chr, Primitive prim.CharOf) ∷ (Some word_text, Primitive prim.TextOf)
    ∷ (Some word_size, Primitive prim.SizeOf) ∷ (Some word_sub, Primitive prim.CharAt) ∷ (Some word_part, Primitive prim.PartOf)
    ∷ (Some word_cat, Primitive prim.Concat) ∷ (Some word_str, Primitive prim.StringOf) ∷ (Some word_print, Primitive prim.Print) ∷ []

-- what the structures have, by number
abbrev pub all_contents : List (List (Vid × Entry))
all_contents = listed_rows integer_list 25 ∷ listed_rows hidden_list 28 ∷ []

-- structures with the numbers of what they have, the latest first
abbrev pub structure_list : List (ℕ × ℕ)
structure_list = (word_Prim, 1) ∷ (word_Int, 0) ∷ []

-- with the structure that was the first alone
abbrev pub without_prim : Context → Context
without_prim C = record C { structures = left_at 1 C.structures }

-- identifiers are those of rows, with schemes from the k-th on
pub record HasRows (s : VidScope Entry) (rs : Rows) (k : ℕ) : Type 0 where
  pub named : s.named ≡ named_rows rs k
  pub fresh : s.fresh ≡ []
  pub equals : s.equals ≡ equal_rows rs k

-- what the structures have
pub record HasMembers (ms : List (VidScope Entry)) : Type 0 where
  pub of_integers : VidScope Entry
  pub of_hidden : VidScope Entry
  pub all : ms ≡ of_integers ∷ of_hidden ∷ []
  pub integers : HasRows of_integers integer_list 25
  pub hidden : HasRows of_hidden hidden_list 28

-- so many schemes, from one on
abbrev pub range : ℕ → ℕ → SchemeRange
range k n = record { first = k; count = n }

-- type constructors, with the schemes of their constructors; no name is `unit`
abbrev pub NamedType : Type 0
NamedType = ℕ × Option TyName × SchemeRange

abbrev pub type_list : List NamedType
type_list = (word_unit, None, range 0 0) ∷ (word_int, Some int_name, range 0 0) ∷ (word_word, Some word_name, range 0 0)
    ∷ (word_char, Some char_name, range 0 0) ∷ (word_string, Some string_name, range 0 0) ∷ (word_exn, Some exn_name, range 0 0)
    ∷ (word_ref, Some ref_name, range 0 1) ∷ (word_bool, Some bool_name, range 1 2) ∷ (word_list, Some list_name, range 3 2) ∷ []

-- the body of its function, which has one parameter at most
abbrev pub body_with : TyName → ℕ → Typ
body_with y zero = con (name y) none
body_with y (suc k) = con (name y) (more (var 0) none)

abbrev pub body_of : Option TyName → Typ
body_of None = unit_type
body_of (Some y) = body_with y y.arity

abbrev pub arity_of : Option TyName → ℕ
arity_of None = 0
arity_of (Some y) = y.arity

abbrev pub function_bodies : List Typ
function_bodies = map (λ t. body_of t.1) type_list

-- with bodies by number
abbrev pub type_entries : List NamedType → List ℕ → List (ℕ × TypeEntry)
type_entries [] bs = []
type_entries (t ∷ ts) [] = []
type_entries (t ∷ ts) (b ∷ bs) = (t.0, record { arity = arity_of t.1; body = b; constructors = t.2 }) ∷ type_entries ts bs

-- the types of the basis are in a table
pub record HasBasis (ts : List Typ) (b : Basis) : Type 0 where
  pub values_held : AllBelow (length ts) (bodies_of b.values.items)
  pub values : schemes_of ts b.values.items ≡ schemes_in entries
  pub integers_held : AllBelow (length ts) (bodies_of b.integers.items)
  pub integers : schemes_of ts b.integers.items ≡ schemes_in integers
  pub hidden_held : AllBelow (length ts) (bodies_of b.hidden.items)
  pub hidden : schemes_of ts b.hidden.items ≡ schemes_in hidden
  pub bodies_held : AllBelow (length ts) b.bodies.items
  pub bodies : map (type_at ts) b.bodies.items ≡ function_bodies

-- a scheme of a context, in a table of types
abbrev pub scheme_in : List Typ → code.Scheme → Scheme
scheme_in ts s = record { marks = s.marks.items; body = type_at ts s.body }

-- what a scheme of the basis becomes
abbrev pub marks_at : List code.Scheme → List (List Mark × ℕ)
marks_at = map (λ s. (s.marks.items, s.body))

abbrev pub basis_marks : List basis.Scheme → List (List Mark × ℕ)
basis_marks = map (λ s. (marks_of s.mark, s.body))

abbrev pub all_marks : Basis → List (List Mark × ℕ)
all_marks b = basis_marks b.values.items ++ (basis_marks b.integers.items ++ basis_marks b.hidden.items)

-- the constructors that schemes are of
abbrev pub constructors_at : List code.Scheme → List (Option Built)
constructors_at = map (λ s. s.constructor)

abbrev pub all_constructors : List (Option Built)
all_constructors = row_constructors row_list ++ (row_constructors integer_list ++ row_constructors hidden_list)
