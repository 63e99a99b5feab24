use Rattle.std.proofs.Common.{nat_eq}
use Rattle.indexmap.specs.IndexMap.{get}
use Rattle.datatype_forms.specs.ProgramTypes.{number_by, Going, burden, Longer}
use Rattle.datatype_forms.proofs.program_types.program_type.Given as goal

abbrev pub invariant-loop-step : goal.invariant-loop-step
invariant-loop-step l = record {
  going : Going l.types (number_by l.names.numbers.now) l.names.limit (get nat_eq l.known) l.program l.steps.items l.k;
  longer : Longer l.fn.program l.program;
}

abbrev pub decreases-loop-step : goal.decreases-loop-step
decreases-loop-step l = burden l.types l.steps.items
