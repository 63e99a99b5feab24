use Rattle.std.proofs.Common.{◌≡◌, ◌++◌, take}
use Rattle.datatype_forms.specs.ProgramTypes.{visits}
use Rattle.datatype_forms.proofs.program_types.visit_all.Given as goal

abbrev pub invariant-loop-part : goal.invariant-loop-part
invariant-loop-part l = l.steps.items ≡ l.fn.steps.items ++ visits (take l.part-index l.parts)
