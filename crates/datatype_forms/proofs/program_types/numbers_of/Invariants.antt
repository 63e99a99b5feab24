use Rattle.std.proofs.Common.{◌≡◌, map, nat_eq, take}
use Rattle.indexmap.specs.IndexMap.{get}
use Rattle.datatype_forms.specs.ProgramTypes.{number_in}
use Rattle.datatype_forms.proofs.program_types.numbers_of.Given as goal

abbrev pub invariant-loop-part : goal.invariant-loop-part
invariant-loop-part l = l.numbers.items ≡ map (number_in (get nat_eq l.known)) (take l.part-index l.parts)
