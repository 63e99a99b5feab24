-- The initial basis, statically and dynamically from one table. [Definition, Appendices C and D] Its identifiers are standard words.
use Rattle.std.specs.Prelude.{ℕ, List, [], ◌∷◌, ◌++◌, map, flat_map}
use Rattle.mlc_names.specs.StandardWords.{word_unit, word_int, word_word, word_char, word_string, word_bool, word_list, word_ref, word_exn, word_true, word_false, word_nil, word_cons, word_Match, word_Bind, word_Overflow, word_Div, word_Subscript, word_Size, word_Chr, word_plus, word_minus, word_times, word_div, word_mod, word_negate, word_abs, word_less_than, word_at_most, word_greater_than, word_at_least, word_assign, word_Prim, word_quot, word_rem, word_andb, word_orb, word_xorb, word_notb, word_shl, word_shr, word_sar, word_toInt, word_toIntX, word_fromInt, word_ord, word_chr, word_text, word_size, word_sub, word_part, word_cat, word_str, word_print}
use Rattle.sml_tree.specs.declared.ident.Vid.{Vid}
use Rattle.sml_tree.specs.declared.ident.Vid.TheVariants.{Named, Equals}
use Rattle.sml_tree.specs.declared.ident.BuiltIn.{BuiltIn}
use Rattle.sml_tree.specs.declared.ident.BuiltIn.TheVariants.{True, False, Nil, Cons}
use Rattle.ty_basis.specs.of_ty_core.Types.{Typ, var}
use Rattle.ty_basis.specs.of_ty_core.Statics.{TypeFunction, named}
use Rattle.ty_basis.specs.of_ty_core.declared.name.TyName.{TyName}
use Rattle.ty_basis.specs.of_ty_core.declared.mark.Mark.{Mark}
use Rattle.ty_basis.specs.of_ty_core.declared.mark.Mark.TheVariants.{Any}
use Rattle.ty_basis.specs.of_ty_core.declared.env.Status.{Status}
use Rattle.ty_basis.specs.of_ty_core.declared.env.Status.TheVariants.{Variable, Constructor, Exception}
use Rattle.ty_basis.specs.Types.{int_name, word_name, char_name, string_name, ref_name, exn_name, bool_name, list_name, name_count, bool_type, exn_type, unit_type, ref_type, list_type, pair_type, function_type}
use Rattle.ty_basis.specs.Primitives.{prim_type, primitive_type}
use Rattle.ty_basis.specs.of_mlc_prims.declared.basis.BasisPrimitive.{BasisPrimitive}
use Rattle.ty_basis.specs.of_mlc_prims.declared.basis.BasisPrimitive.TheVariants as prim
use Rattle.core_rules.specs.Objects.{Scheme, monomorphic, Context, TypeStructure}
use Rattle.core_rules.specs.Objects as static
use Rattle.core_rules.specs.Values as dynamic
use Rattle.core_rules.specs.Values.{built}
use Rattle.core_rules.specs.Eval.{match_packet, bind_packet, packet_of}
use Rattle.ty_basis.specs.of_mlc_prims.declared.prim.PrimExn.TheVariants.{Overflow, Div, Subscript, Size, Chr}

-- for all types that the mark allows
abbrev pub for_all : Mark → Typ → Scheme
for_all a t = record { marks = a ∷ []; body = t }

-- the constructors that derived forms name
abbrev pub built_scheme : BuiltIn → Scheme
built_scheme True = monomorphic bool_type
built_scheme False = monomorphic bool_type
built_scheme Nil = for_all Any (list_type (var 0))
built_scheme Cons = for_all Any (function_type (pair_type (var 0) (list_type (var 0))) (list_type (var 0)))

-- Rows of values
pub record Entry : Type 0 where
  pub vid : Vid
  pub scheme : Scheme
  pub status : Status
  pub value : dynamic.Value

abbrev pub built_row : ℕ → BuiltIn → Entry
built_row x b = record { vid = Named x; scheme = built_scheme b; status = Constructor; value = dynamic.con (built b) }

abbrev pub ref_row : Entry
ref_row = record { vid = Named word_ref; scheme = for_all Any (function_type (var 0) (ref_type (var 0))); status = Constructor; value = dynamic.ref }

abbrev pub exception_row : ℕ → dynamic.Value → Entry
exception_row x packet = record { vid = Named x; scheme = monomorphic exn_type; status = Exception; value = packet }

-- primitives: with a parameter, and without one
abbrev pub general_row : Vid → BasisPrimitive → Entry
general_row x q = record { vid = x; scheme = for_all (prim_type q).mark (primitive_type q); status = Variable; value = dynamic.primitive q }

abbrev pub plain_row : ℕ → BasisPrimitive → Entry
plain_row x q = record { vid = Named x; scheme = monomorphic (primitive_type q); status = Variable; value = dynamic.primitive q }

-- in the order of their names' numbers
abbrev pub exceptions : List Entry
exceptions = exception_row word_Match match_packet ∷ exception_row word_Bind bind_packet ∷ exception_row word_Overflow (packet_of Overflow)
    ∷ exception_row word_Div (packet_of Div) ∷ exception_row word_Subscript (packet_of Subscript) ∷ exception_row word_Size (packet_of Size)
    ∷ exception_row word_Chr (packet_of Chr) ∷ []

abbrev pub primitives : List Entry
primitives = general_row (Named word_plus) prim.Add ∷ general_row (Named word_minus) prim.Subtract ∷ general_row (Named word_times) prim.Multiply
    ∷ general_row (Named word_div) prim.Divide ∷ general_row (Named word_mod) prim.Modulo ∷ general_row (Named word_negate) prim.Negate
    ∷ plain_row word_abs prim.Absolute ∷ general_row (Named word_less_than) prim.Less ∷ general_row (Named word_at_most) prim.LessEqual
    ∷ general_row (Named word_greater_than) prim.Greater ∷ general_row (Named word_at_least) prim.GreaterEqual ∷ general_row Equals prim.Equals
    ∷ general_row (Named word_assign) prim.Assign ∷ []

-- the members of the structure `Prim`, which only the prelude sees
abbrev pub hidden : List Entry
hidden = plain_row word_quot prim.Quotient ∷ plain_row word_rem prim.Remainder ∷ plain_row word_andb prim.BitsAnd ∷ plain_row word_orb prim.BitsOr
    ∷ plain_row word_xorb prim.BitsXor ∷ plain_row word_notb prim.BitsNot ∷ plain_row word_shl prim.ShiftLeft ∷ plain_row word_shr prim.ShiftRight
    ∷ plain_row word_sar prim.ShiftSigned ∷ plain_row word_toInt prim.ToInt ∷ plain_row word_toIntX prim.ToIntSigned ∷ plain_row word_fromInt prim.FromInt
    ∷ plain_row word_ord prim.CharCode ∷ plain_row word_chr prim.CharOf ∷ plain_row word_text prim.TextOf ∷ plain_row word_size prim.SizeOf
    ∷ plain_row word_sub prim.CharAt ∷ plain_row word_part prim.PartOf ∷ plain_row word_cat prim.Concat ∷ plain_row word_str prim.StringOf
    ∷ plain_row word_print prim.Print ∷ []

-- Rows of types, with their constructors
pub record TypeEntry : Type 0 where
  pub tycon : ℕ
  pub function : TypeFunction
  pub constructors : List Entry

abbrev pub type_row : ℕ → TyName → List Entry → TypeEntry
type_row x n cs = record { tycon = x; function = named n; constructors = cs }

abbrev pub type_rows : List TypeEntry
type_rows = record { tycon = word_unit; function = record { arity = 0; body = unit_type }; constructors = [] } ∷ type_row word_int int_name []
    ∷ type_row word_word word_name [] ∷ type_row word_char char_name [] ∷ type_row word_string string_name [] ∷ type_row word_exn exn_name []
    ∷ type_row word_ref ref_name (ref_row ∷ []) ∷ type_row word_bool bool_name (built_row word_true True ∷ built_row word_false False ∷ [])
    ∷ type_row word_list list_name (built_row word_nil Nil ∷ built_row word_cons Cons ∷ []) ∷ []

abbrev pub entries : List Entry
entries = flat_map (λ t. t.constructors) type_rows ++ (exceptions ++ primitives)

-- Structures of values. Until structures can be declared, three of the functions on integers are in a structure `Int`.

abbrev pub word_Int : ℕ
word_Int = 72

abbrev pub word_toString : ℕ
word_toString = 96

abbrev pub integers : List Entry
integers = plain_row word_toString prim.TextOf ∷ plain_row word_quot prim.Quotient ∷ plain_row word_rem prim.Remainder ∷ []

abbrev pub Members : Type 0
Members = List (ℕ × List Entry)

-- the structures of the initial basis, and those that the prelude sees
abbrev pub initial_members : Members
initial_members = (word_Int, integers) ∷ []

abbrev pub prelude_members : Members
prelude_members = (word_Prim, hidden) ∷ initial_members

-- The views of the table: whatever is read off each row, and of these the static and the dynamic one.
abbrev pub view : {D : Type 0} → (Entry → D) → List Entry → static.Map Vid D
view read rows = map (λ r. (r.vid, read r)) rows

abbrev pub static_values : List Entry → static.Values
static_values = view (λ r. record { scheme = r.scheme; status = r.status })

abbrev pub static_types : List TypeEntry → static.Map ℕ TypeStructure
static_types rows = map (λ t. (t.tycon, record { function = t.function; constructors = static_values t.constructors })) rows

abbrev pub dynamic_values : List Entry → dynamic.Env
dynamic_values [] = dynamic.nothing
dynamic_values (r ∷ rs) = dynamic.value r.vid r.status r.value (dynamic_values rs)

abbrev pub dynamic_types : List TypeEntry → dynamic.Env
dynamic_types [] = dynamic.nothing
dynamic_types (t ∷ ts) = dynamic.tycon t.tycon (dynamic_values t.constructors) (dynamic_types ts)

abbrev pub static_structures : Members → static.Structures
static_structures [] = static.no_structures
static_structures (m ∷ ms) = static.structure m.0 (static.values_env (static_values m.1)) (static_structures ms)

abbrev pub dynamic_structures : Members → dynamic.Env
dynamic_structures [] = dynamic.nothing
dynamic_structures (m ∷ ms) = dynamic.structure m.0 (dynamic_values m.1) (dynamic_structures ms)

abbrev pub static_env : Members → static.Env
static_env ms = static.env (static_values entries) (static_types type_rows) (static_structures ms)

abbrev pub dynamic_env : Members → dynamic.Env
dynamic_env ms = dynamic.plus (dynamic_structures ms) (dynamic.plus (dynamic_types type_rows) (dynamic_values entries))

-- an environment before any declaration, with so many type names in use
abbrev pub context_of : ℕ → static.Env → Context
context_of n e = record { names = n; tyvars = []; env = e }

-- where nothing is in scope; constants and derived forms have their types all the same
abbrev pub empty_context : Context
empty_context = context_of name_count static.no_env

-- the initial basis, and the one that the prelude sees
abbrev pub initial_context : Context
initial_context = context_of name_count (static_env initial_members)

abbrev pub initial_env : dynamic.Env
initial_env = dynamic_env initial_members

abbrev pub prelude_context : Context
prelude_context = context_of name_count (static_env prelude_members)

abbrev pub prelude_env : dynamic.Env
prelude_env = dynamic_env prelude_members
