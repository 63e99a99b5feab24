-- What is in scope, in the words of the typing.
use Rattle.std.specs.Prelude.{List, ◌++◌}
use Rattle.ty_core.specs.declared.scheme.Quantified.{Quantified}
use Rattle.ir_known.specs.Knows.{knowns_of, marks_of}
use Rattle.ir_known.specs.of_ir_poly.TestsChecked.{Knowns}
use Rattle.ir_known.specs.of_ir_poly.Types.{Constructor, initial_constructors}
use Rattle.ir_known.specs.of_ir_tables.Tables.{parameters_of, constructors_of}
use Rattle.ir_known.specs.of_ir_tables.declared.tables.Tables.{Tables}
use Rattle.prog_known.specs.declared.environment.Environment.{Environment}

-- the constructors that a program of these tables has
abbrev pub table_in : Tables → List Constructor
table_in t = initial_constructors ++ constructors_of t

abbrev pub parameters_in : Environment → List Quantified
parameters_in e = marks_of e.parameters

abbrev pub variables_in : Tables → Environment → Knowns
variables_in t e = knowns_of t.types (parameters_of t) e.variables
