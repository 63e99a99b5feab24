use Rattle.std.proofs.Common.{◌≡◌, ◌++◌, take}
use Rattle.datatype_forms.specs.Arguments.{row_arguments}
use Rattle.datatype_forms.proofs.marks.push_arguments.Given as goal

abbrev pub invariant-loop-i : goal.invariant-loop-i
invariant-loop-i l = l.arguments.items ≡ l.fn.arguments.items ++ row_arguments l.datatype (take l.i l.row)
