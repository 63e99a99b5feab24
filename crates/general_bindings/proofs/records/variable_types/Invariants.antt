use Rattle.std.proofs.Common.{◌≡◌, map, take}
use Rattle.ty_core.specs.Types.{var}
use Rattle.ty_table.specs.TypeAt.{type_at}
use Rattle.pattern_tests.specs.of_match_types.Views.{View, Sees, Keeps}
use Rattle.general_bindings.proofs.records.variable_types.Given as goal

abbrev pub invariant-loop-i : goal.invariant-loop-i
invariant-loop-i l = record {
  is : (v : View) → Sees l.work v → map (type_at v.types) l.made.items ≡ map var (take l.i l.variables);
  next : l.work.next ≡ l.fn.work.next;
  keeps : Keeps l.fn.work l.work;
}
