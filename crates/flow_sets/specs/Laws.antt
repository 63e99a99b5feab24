-- What is claimed of the sets by type.
use Rattle.ir_mono.specs.Mono.{Program}
use Rattle.ir_mono.specs.WellFormed.{IsWellFormed}
use Rattle.flow_sets.specs.Flow.{SolvesProgram}
use Rattle.flow_sets.specs.ByType.{by_type}

-- all functions of each type are a solution
abbrev pub ByTypeSolves : Type 0
ByTypeSolves = (p : Program) → IsWellFormed p → SolvesProgram p.types (by_type p) p.body
