-- The program that a program of the code stands for.
use Rattle.std.specs.Prelude.{map}
use Rattle.first_tables.specs.TablesOf.{tables_of}
use Rattle.ssa_tree.specs.TreeOf.{fun_of}
use Rattle.ir_ssa.specs.Tree as s
use Rattle.ssa_form.specs.declared.form.Ssa.{Ssa}

abbrev pub program_of : Ssa → s.Program
program_of p = record { tables = tables_of p.tables; funs = map fun_of p.funs.items }
