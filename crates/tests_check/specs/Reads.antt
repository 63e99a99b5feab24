-- What the numbers of a tree of tests stand for.
use Rattle.std.specs.Prelude.{ℕ, List, [], map}
use Rattle.ty_table.specs.TypeAt.{type_at}
use Rattle.ir_poly.specs.Tests.{inst, poly}
use Rattle.ir_tables.specs.declared.tables.Tables.{Tables}
use Rattle.ir_tables.specs.Tables.{parameters_of, parameters_at, strings_of}
use Rattle.plain_tree.specs.TreeOf.{Reading}

-- variables are their numbers; an atom is a variable at no types
abbrev pub reading : Tables → Reading poly
reading t = record {
  binder = λ x. x;
  atom = λ x. inst x [];
  use_at = λ x ts. inst x (map (type_at t.types) ts);
  type = type_at t.types;
  parameters = parameters_at (parameters_of t);
  strings = strings_of t;
}
