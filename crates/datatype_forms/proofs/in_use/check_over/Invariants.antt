use Rattle.std.proofs.Common.{map, nat_eq, take}
use Rattle.indexmap.specs.IndexMap.{get}
use Rattle.datatype_forms.specs.Arguments.{RowsOver, rows_at}
use Rattle.datatype_forms.specs.ProgramTypes.{AreRight, number_by}
use Rattle.datatype_forms.proofs.in_use.check_over.Given as goal

abbrev pub invariant-loop-i : goal.invariant-loop-i
invariant-loop-i l = record {
  over : RowsOver l.names.limit (rows_at l.types (map (λ ks. ks.items) (take l.i l.rows)));
  right : AreRight l.types (number_by l.names.numbers.now) l.names.limit (get nat_eq l.known) l.copies;
}
