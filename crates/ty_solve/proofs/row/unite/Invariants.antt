use Rattle.std.proofs.Common.{◌≡◌, length, map, nat_eq, take}
use Rattle.indexmap.specs.IndexMap.{get}
use Rattle.ty_table.specs.TypeAt.{type_at, types_at, AllBelow}
use Rattle.ty_solve.specs.Fields.{IsUnion}
use Rattle.ty_solve.specs.Places.{AreNoted}
use Rattle.ty_solve.proofs.Lists.{all}
use Rattle.ty_solve.proofs.row.unite.Given as goal

abbrev pub invariant-loop-i : goal.invariant-loop-i
invariant-loop-i l = record {
  flag : l.row.equality ≡ l.fn.row.equality;
  union : IsUnion l.fn.row.labels.items (types_at l.table l.fn.row.types.items) (take l.i l.labels) (all (take l.i (map (type_at l.table) l.types))) l.row.labels.items (types_at l.table l.row.types.items);
  noted : AreNoted l.row.labels.items (length l.row.labels.items) (get nat_eq l.places);
  held : AllBelow (length l.table) l.fn.row.types.items → AllBelow (length l.table) l.types → AllBelow (length l.table) l.row.types.items;
}
