-- The table of the closed types of copies. A type is placed after its parts, where it isn't there yet; a constructor is entered at its datatype's instance
-- where a copy uses it, with the type of its argument.
use Rattle.std.specs.Prelude.{◌≡◌, ℕ, suc, Bool, true, false, ◌&&◌, List, [], ◌∷◌, ◌++◌, length, Option, Some, None, option_map, nat_eq, slice_get, slice_set, if◌then◌else◌, ⊤}
use Rattle.std.specs.Map.{lookup}
use Rattle.ty_core.specs.Types.{arrow, labels, name, Typ, var, con, Typs, none, more, attribute, allowed}
use Rattle.ty_core.specs.declared.name.TyName.{TyName}
use Rattle.ir_mono.specs.of_ir_plain.Tree.{Case, is_literal, is_con, is_con_of, is_exn, is_exn_of, is_record, Exp, ret, let_in, exception_in, name_in, rec_in, switch, first, miss, counted, Arms, no_arms, arm, Op, use_of, const, con_alone, construct, ref_alone, refer, content, pack, make_record, select, prim_alone, prim, app, fn, block, handle, raise, raise_initial, Fun, last, more as more_of, Funs, no_funs, fun}
use Rattle.ir_mono.specs.of_ir_values.Values.{false_number, true_number}
use Rattle.ir_mono.specs.of_ir_poly.Types.{Constructor, find, bool_name, exn_name}
use Rattle.ir_mono.specs.Types.{Row, Node, node, unit_number}
use Rattle.ir_mono.specs.Growing.{with_constructor}
use Rattle.monomorphise.specs.Monomorphise.{Named, same_name, same_symbol}
use Rattle.monomorphise.specs.Simple.{all_flagged, nth_part}

-- What copies want of a table: a type, or a constructor at one.
pub data Wanted : Type 0 where
  a_type : Typ → Wanted
  a_constructor : Typ → ℕ → Wanted

-- a type that may be there, before others
abbrev pub wanted_if : Option Typ → List Wanted → List Wanted
wanted_if None ws = ws
wanted_if (Some t) ws = a_type t ∷ ws

-- an arm for values of the type u
abbrev pub case_wanted : Typ → Case Named → List Wanted
case_wanted u (is_literal l) = []
case_wanted u (is_con c) = a_constructor u c ∷ []
case_wanted u (is_con_of c k t) = a_constructor u c ∷ a_type t ∷ []
case_wanted u (is_exn j) = []
case_wanted u (is_exn_of j k t) = a_type t ∷ []
case_wanted u (is_record size) = []

abbrev mutual
  pub wanted : Exp Named → List Wanted
  wanted (ret k) = []
  wanted (let_in k u t o e) = a_type t ∷ (op_wanted o ++ wanted e)
  wanted (exception_in k i t e) = wanted_if t (wanted e)
  wanted (name_in k j e) = wanted e
  wanted (rec_in u fs e) = funs_wanted fs ++ wanted e
  wanted (switch k t arms) = a_type t ∷ arms_wanted t arms
  wanted (first e d) = wanted e ++ wanted d
  wanted miss = []
  wanted (counted n e) = wanted e

  pub arms_wanted : Typ → Arms Named → List Wanted
  arms_wanted u no_arms = []
  arms_wanted u (arm c e arms) = case_wanted u c ++ (wanted e ++ arms_wanted u arms)

  pub op_wanted : Op Named → List Wanted
  op_wanted (use_of k) = []
  op_wanted (const l) = []
  op_wanted (con_alone c t) = a_type t ∷ a_constructor t c ∷ []
  op_wanted (construct m c t k) = a_type t ∷ a_constructor t c ∷ []
  op_wanted (ref_alone t) = a_type t ∷ []
  op_wanted (refer m t k) = a_type t ∷ []
  op_wanted (content t k) = a_type t ∷ []
  op_wanted (pack m t j k) = a_type t ∷ []
  op_wanted (make_record t row) = a_type t ∷ []
  op_wanted (select t l k) = a_type t ∷ []
  op_wanted (prim_alone p t) = a_type t ∷ []
  op_wanted (prim m p t as_) = a_type t ∷ []
  op_wanted (app place j k) = []
  op_wanted (fn f) = fun_wanted f
  op_wanted (block e) = wanted e
  op_wanted (handle e k d) = wanted e ++ wanted d
  op_wanted (raise k) = []
  op_wanted (raise_initial i) = []

  pub fun_wanted : Fun Named → List Wanted
  fun_wanted (last k t e) = a_type t ∷ wanted e
  fun_wanted (more_of k t f) = a_type t ∷ fun_wanted f

  pub funs_wanted : Funs Named → List Wanted
  funs_wanted no_funs = []
  funs_wanted (fun k t f fs) = a_type t ∷ (fun_wanted f ++ funs_wanted fs)

-- Numbers of types.

abbrev pub same_numbers : List ℕ → List ℕ → Bool
same_numbers [] [] = true
same_numbers [] (n ∷ ns) = false
same_numbers (m ∷ ms) [] = false
same_numbers (m ∷ ms) (n ∷ ns) = nat_eq m n && same_numbers ms ns

abbrev pub same_node : Node → Node → Bool
same_node (node h ps) (node k qs) = same_symbol h k && same_numbers ps qs

abbrev pub position : Node → List Row → Option ℕ
position k [] = None
position k (r ∷ types) = if same_node r.type k then Some 0 else option_map suc (position k types)

abbrev pub or_unit : Option ℕ → ℕ
or_unit None = unit_number
or_unit (Some n) = n

-- the number of a closed type; a variable, of which none is left, would stand for unit
abbrev mutual
  pub number_in : List Row → Typ → ℕ
  number_in types (var v) = unit_number
  number_in types (con h ts) = or_unit (position (node h (numbers_in types ts)) types)

  pub numbers_in : List Row → Typs → List ℕ
  numbers_in types none = []
  numbers_in types (more t ts) = number_in types t ∷ numbers_in types ts

-- Types are placed: the table then, and the type's number.

abbrev pub row_of : List Row → Node → Row
row_of types (node h ps) = record { type = node h ps; constructors = []; equality = allowed (attribute h) (all_flagged types ps) }

abbrev pub placed : List Row → Node → Option ℕ → List Row × ℕ
placed types k None = (types ++ row_of types k ∷ [], length types)
placed types k (Some n) = (types, n)

abbrev pub place : List Row → Node → List Row × ℕ
place types k = placed types k (position k types)

-- s has the numbers of the type's variables
abbrev mutual
  pub place_type : (ℕ → ℕ) → List Row → Typ → List Row × ℕ
  place_type s types (var v) = (types, s v)
  place_type s types (con h ts) = let r = place_all s types ts in place r.0 (node h r.1)

  pub place_all : (ℕ → ℕ) → List Row → Typs → List Row × List ℕ
  place_all s types none = (types, [])
  place_all s types (more t ts) = let r = place_type s types t in let q = place_all s r.0 ts in (q.0, r.1 ∷ q.1)

-- Constructors are entered.

-- in the row r of number n, where the datatype is at the parts ps
abbrev pub with_argument : List Row → ℕ → Row → ℕ → List ℕ → Option Typ → List Row
with_argument types n r c ps None = slice_set types n (with_constructor r c None)
with_argument types n r c ps (Some t) = let q = place_type (nth_part ps) types t in slice_set q.0 n (with_constructor r c (Some q.1))

abbrev pub with_found : List Row → ℕ → Row → ℕ → TyName → List ℕ → Option Constructor → List Row
with_found types n r c y ps None = types
with_found types n r c y ps (Some k) = if same_name k.datatype y then with_argument types n r c ps k.argument else types

abbrev pub with_new : List Constructor → List Row → ℕ → Row → ℕ → Node → List Row
with_new constructors types n r c (node arrow ps) = types
with_new constructors types n r c (node (labels ls) ps) = types
with_new constructors types n r c (node (name y) ps) = with_found types n r c y ps (find constructors y c)

abbrev pub unless_listed : List Constructor → List Row → ℕ → Row → ℕ → Option (Option ℕ) → List Row
unless_listed constructors types n r c None = with_new constructors types n r c r.type
unless_listed constructors types n r c (Some a) = types

abbrev pub enter_at : List Constructor → List Row → ℕ → ℕ → Option Row → List Row
enter_at constructors types n c None = types
enter_at constructors types n c (Some r) = unless_listed constructors types n r c (lookup (nat_eq c) r.constructors)

abbrev pub enter : List Constructor → List Row → Wanted → List Row
enter constructors types (a_type t) = (place_type (λ v. unit_number) types t).0
enter constructors types (a_constructor t c) =
    let q = place_type (λ v. unit_number) types t in enter_at constructors q.0 q.1 c (slice_get q.0 q.1)

abbrev pub enter_all : List Constructor → List Row → List Wanted → List Row
enter_all constructors types [] = types
enter_all constructors types (w ∷ ws) = enter_all constructors (enter constructors types w) ws

-- unit, truth values and packets come first
abbrev pub first_types : List Row
first_types =
    record { type = node (labels []) []; constructors = []; equality = true }
    ∷ record { type = node (name bool_name) []; constructors = (false_number, None) ∷ (true_number, None) ∷ []; equality = true }
    ∷ record { type = node (name exn_name) []; constructors = []; equality = false } ∷ []

abbrev pub types_for : List Constructor → Exp Named → List Row
types_for constructors e = enter_all constructors first_types (wanted e)
