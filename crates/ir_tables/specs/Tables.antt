-- What the tables of a program say.
use Rattle.std.specs.Prelude.{ℕ, List, [], map, slice_index_or}
use Rattle.ir_poly.specs.of_mlc_prims.LitOf.{Literal, int, word, char, string}
use Rattle.ir_poly.specs.of_ty_core.declared.scheme.Quantified.{Quantified}
use Rattle.ir_poly.specs.Types as clean
use Rattle.ir_poly.specs.WellFormed.{Program}
use Rattle.ir_tables.specs.Rows.{constructors_at}
use Rattle.ir_tables.specs.declared.tables.Constant.{Constant}
use Rattle.ir_tables.specs.declared.tables.Constant.TheVariants as constant
use Rattle.ir_tables.specs.declared.tables.Tables.{Tables}

-- the identifiers of the initial basis' exceptions
abbrev pub initial_of : Tables → List ℕ
initial_of t = t.initial.items

abbrev pub constructors_of : Tables → List clean.Constructor
constructors_of t = constructors_at t.types t.constructors

abbrev pub parameters_of : Tables → List (List Quantified)
parameters_of t = map (λ p. p.items) t.parameters.items

abbrev pub strings_of : Tables → List (List ℕ)
strings_of t = map (λ s. s.items) t.strings.items

-- a list of parameters, and a string, by number; none where the table has none of that number
abbrev pub parameters_at : List (List Quantified) → ℕ → List Quantified
parameters_at ps k = slice_index_or ps k []

abbrev pub string_at : List (List ℕ) → ℕ → List ℕ
string_at ss k = slice_index_or ss k []

abbrev pub literal_at : List (List ℕ) → Constant → Literal
literal_at ss (constant.Int z) = int z
literal_at ss (constant.Word n) = word n
literal_at ss (constant.Char n) = char n
literal_at ss (constant.Text k) = string (string_at ss k)

-- a program of these tables with a body
abbrev pub program_of : {Body : Type 0} → Tables → Body → Program Body
program_of t body = record { initial = initial_of t; constructors = constructors_of t; body = body }
