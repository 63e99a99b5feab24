-- Numbers as the tables of a program have them.
use Rattle.ir_tables.specs.declared.tables.Tables.{Tables}
use Rattle.ir_tables.specs.Tables.{parameters_of, strings_of, parameters_at}
use Rattle.ir_tables.specs.of_ty_table.TypeAt.{type_at}
use Rattle.prog_tree.specs.TreeOf.{Reading}

abbrev pub reading : Tables → Reading
reading t = record { type = type_at t.types; parameters = parameters_at (parameters_of t); strings = strings_of t }
