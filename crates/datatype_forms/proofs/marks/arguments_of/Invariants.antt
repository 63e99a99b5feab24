use Rattle.std.proofs.Common.{◌≡◌, map, take}
use Rattle.datatype_forms.specs.Arguments.{all_arguments}
use Rattle.datatype_forms.proofs.marks.arguments_of.Given as goal

abbrev pub invariant-loop-i : goal.invariant-loop-i
invariant-loop-i l = l.arguments.items ≡ all_arguments 0 (map (λ ks. ks.items) (take l.i l.rows))
