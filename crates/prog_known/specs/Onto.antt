-- What is put in front of the variables in scope.
use Rattle.std.specs.Prelude.{◌≡◌, ℕ, List, ◌++◌}
use Rattle.ty_core.specs.Types.{Typ}
use Rattle.ir_known.specs.Knows.{knowns_of}
use Rattle.ir_known.specs.declared.known.Known.{Known}
use Rattle.ir_known.specs.of_ir_poly.TestsChecked as clean
use Rattle.ir_known.specs.of_ir_poly.TestsChecked.{Knowns, of_type, own, declared}
use Rattle.ir_known.specs.of_ir_tables.Tables.{parameters_of, parameters_at}
use Rattle.ir_known.specs.of_ir_tables.declared.tables.Tables.{Tables}
use Rattle.prog_known.specs.declared.manner.Manner.{Manner}
use Rattle.prog_known.specs.declared.manner.Manner.TheVariants.{Plain, Over, Own}

abbrev pub known_with : Tables → List (ℕ × Known) → Knowns
known_with t = knowns_of t.types (parameters_of t)

-- what a variable of a type is, by the manner of its declaration
abbrev pub known_by : Tables → Manner → Typ → clean.Known
known_by t Plain = of_type
known_by t (Over ps) = declared (parameters_at (parameters_of t) ps)
known_by t Own = own

-- some are put in front, which makes f of what is known
pub record Onto (t : Tables) (old new : List (ℕ × Known)) (f : Knowns → Knowns) : Type 0 where
  pub added : List (ℕ × Known)
  pub grows : new ≡ added ++ old
  pub is : known_with t new ≡ f (known_with t old)
