use Rattle.std.proofs.Common.{List, map, nat_eq, take}
use Rattle.indexmap.specs.IndexMap.{get}
use Rattle.ty_table.specs.of_ty_core.Types.{Typ}
use Rattle.ty_table.specs.TypeAt.{type_at}
use Rattle.ty_solve.specs.Places.{AreNoted}
use Rattle.ty_solve.specs.Rows.{IsProper}
use Rattle.ty_solve.proofs.Lists.{all}
use Rattle.ty_solve.proofs.row.is_proper.Given as goal

abbrev pub invariant-loop-i : goal.invariant-loop-i
invariant-loop-i l = record {
  proper : (ts : List Typ) → IsProper (take l.i l.labels) (all (take l.i (map (type_at ts) l.types)));
  noted : AreNoted l.labels l.i (get nat_eq l.places);
}
