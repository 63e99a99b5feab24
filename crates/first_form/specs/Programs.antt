-- The program that a program of the code stands for.
use Rattle.std.specs.Prelude.{map}
use Rattle.first_tables.specs.TablesOf.{tables_of}
use Rattle.first_tree.specs.TreeOf.{fun_of}
use Rattle.ir_first.specs.Tree as f
use Rattle.first_form.specs.declared.form.First.{First}

abbrev pub program_of : First → f.Program
program_of p = record { tables = tables_of p.tables; funs = map fun_of p.funs.items }
