-- Small cases, by computation.
use Rattle.std.proofs.Common.{◌≡◌, ℕ, ◌-◌, ◌^◌, [], ◌∷◌, Some, None, true, false, refl}
use Rattle.std.specs.Prelude.{pos, negsuc}
use Rattle.ir_values.specs.of_mlc_runs.Run.{gives, stops, went_wrong, start}
use Rattle.ir_values.specs.of_mlc_prims.LitOf.{int, string}
use Rattle.ir_values.specs.of_mlc_prims.PrimOf.{made, raised}
use Rattle.ir_values.specs.of_mlc_prims.declared.basis.BasisPrimitive.TheVariants.{Add, Less, Divide}
use Rattle.ir_values.specs.of_mlc_prims.declared.prim.PrimExn.TheVariants.{Div}
use Rattle.first_values.specs.Values.{Value, literal, cell, name, packet, no_values, value, unit, one, run, gather}
use Rattle.first_values.specs.Equality.{numbers, cells, opaque, equal_at}
use Rattle.first_values.specs.Operations.{Tables, an_int, a_word, a_char, a_text, ints, words, constant, initial, compute, is, is_of, holds, one_of, attempted, perform, decide, called}

abbrev n : ℕ → Value
n k = literal (int (pos k))

abbrev list : Value
list = cell 1 (value (n 5) (value (cell 0 no_values) no_values))

abbrev tables : Tables
tables = record {
  initial = 40 ∷ [];
  strings = (65 ∷ []) ∷ [];
  types = numbers ∷ cells ([] ∷ (0 ∷ 1 ∷ []) ∷ []) ∷ [];
  sets = (record { tag = 7; function = 3 } ∷ record { tag = 9; function = 4 } ∷ []) ∷ [];
}

-- a value and a run of two parts
pieces : gather (one 2 ∷ run 1 0 2 ∷ []) ((1, list) ∷ (2, n 8) ∷ []) ≡ Some (n 8 ∷ n 5 ∷ cell 0 no_values ∷ [])
pieces = refl

-- a part is missing
too_long : gather (run 1 1 2 ∷ []) ((1, list) ∷ []) ≡ None
too_long = refl

lists_equal : equal_at tables.types (cells ([] ∷ (0 ∷ 1 ∷ []) ∷ [])) list list ≡ Some true
lists_equal = refl

lists_differ : equal_at tables.types (cells ([] ∷ (0 ∷ 1 ∷ []) ∷ [])) list (cell 0 no_values) ≡ Some false
lists_differ = refl

-- parts after the first difference are not looked at
heads_differ : equal_at tables.types (cells ([] ∷ (0 ∷ 1 ∷ []) ∷ [])) list (cell 1 (value (n 6) (value (n 0) no_values))) ≡ Some false
heads_differ = refl

functions_have_none : equal_at tables.types opaque list list ≡ None
functions_have_none = refl

text_constant : perform tables (constant (a_text 0)) [] (start 0) ≡ gives (literal (string (65 ∷ []))) (start 0)
text_constant = refl

-- constants have 32 bits or 8
least_constant : perform tables (constant (an_int (negsuc (2 ^ 31 - 1)))) [] (start 0) ≡ gives (literal (int (negsuc (2 ^ 31 - 1)))) (start 0)
least_constant = refl

no_such_constant : perform tables (constant (an_int (pos (2 ^ 31)))) [] (start 0) ≡ stops went_wrong (start 0)
no_such_constant = refl

no_such_word : perform tables (constant (a_word (2 ^ 32))) [] (start 0) ≡ stops went_wrong (start 0)
no_such_word = refl

no_such_char : decide tables (is (a_char 256)) (n 0 ∷ []) ≡ None
no_such_char = refl

-- the names of the initial exceptions alone are there
first_exception : perform tables (initial 0) [] (start 0) ≡ gives (name 0) (start 0)
first_exception = refl

no_such_exception : perform tables (initial 1) [] (start 0) ≡ stops went_wrong (start 0)
no_such_exception = refl

sum : attempted ints Add (n 2 ∷ n 3 ∷ []) ≡ Some (made (int (pos 5)))
sum = refl

-- one row of an overloaded primitive alone
sum_of_words : attempted words Add (n 2 ∷ n 3 ∷ []) ≡ None
sum_of_words = refl

no_divisor : attempted ints Divide (n 2 ∷ n 0 ∷ []) ≡ Some (raised Div)
no_divisor = refl

-- what raises has no value as a plain operation
plain_divide : perform tables (compute ints Divide) (n 2 ∷ n 0 ∷ []) (start 0) ≡ stops went_wrong (start 0)
plain_divide = refl

less : decide tables (holds ints Less) (n 2 ∷ n 3 ∷ []) ≡ Some true
less = refl

a_constant : decide tables (is (an_int (pos 3))) (n 2 ∷ []) ≡ Some false
a_constant = refl

same_exception : decide tables is_of (packet 4 unit ∷ name 4 ∷ []) ≡ Some true
same_exception = refl

-- a closure goes before the argument
dispatched : called tables (one_of 0 1) ((1, cell 9 no_values) ∷ []) (n 1 ∷ []) ≡ Some (record { function = 4; arguments = cell 9 no_values ∷ n 1 ∷ [] })
dispatched = refl

no_member : called tables (one_of 0 1) ((1, cell 8 no_values) ∷ []) (n 1 ∷ []) ≡ None
no_member = refl
