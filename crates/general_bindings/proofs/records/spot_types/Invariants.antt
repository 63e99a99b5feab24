use Rattle.std.proofs.Common.{◌≡◌, length, map, take}
use Rattle.ty_table.specs.TypeAt.{type_at, AllBelow}
use Rattle.match_compile.specs.Compile.{all_scoped}
use Rattle.pattern_tests.specs.of_match_types.Views.{View, Sees, Keeps}
use Rattle.general_bindings.specs.General.{types_of}
use Rattle.general_bindings.proofs.records.spot_types.Given as goal

abbrev pub invariant-loop-i : goal.invariant-loop-i
invariant-loop-i l = record {
  is : (v : View) → Sees l.work v → map (type_at v.types) l.made.items ≡ all_scoped v.scope (types_of v (take l.i l.spots));
  held : AllBelow (length l.work.tables.types) l.made.items;
  next : l.work.next ≡ l.fn.work.next;
  keeps : Keeps l.fn.work l.work;
}
