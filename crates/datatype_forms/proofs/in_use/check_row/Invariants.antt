use Rattle.std.proofs.Common.{nat_eq, take}
use Rattle.indexmap.specs.IndexMap.{get}
use Rattle.datatype_forms.specs.Arguments.{RowOver, row_at}
use Rattle.datatype_forms.specs.ProgramTypes.{AreRight, number_by}
use Rattle.datatype_forms.proofs.in_use.check_row.Given as goal

abbrev pub invariant-loop-i : goal.invariant-loop-i
invariant-loop-i l = record {
  over : RowOver l.names.limit (row_at l.types (take l.i l.row));
  right : AreRight l.types (number_by l.names.numbers.now) l.names.limit (get nat_eq l.known) l.copies;
}
