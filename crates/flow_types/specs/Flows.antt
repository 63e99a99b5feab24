-- The sets that the code has, and those of `flow_sets`.
use Rattle.std.specs.Prelude.{◌≡◌, ℕ, List, length, slice_index_or}
use Rattle.ir_mono.specs.Types as table
use Rattle.ir_mono.specs.Mono.{Mono, Program}
use Rattle.flow_sets.specs.Flow as clean
use Rattle.flow_sets.specs.Flow.{variable, SolvesProgram}
use Rattle.closure_whole.specs.Rising.{rising}
use Rattle.flow_types.specs.Kinds.{items_of}
use Rattle.flow_types.specs.declared.flow.Flow.{Flow}

-- the code has these sets, and the numbers of variables' sets
pub record Has (flow : Flow) (F : clean.Flow) : Type 0 where
  pub sets : items_of flow.sets.items ≡ F.sets
  pub numbers : (x : ℕ) → slice_index_or flow.numbers.items x (length flow.sets.items) ≡ F.number (variable x)

-- a program of these parts
abbrev pub program_with : (initial : List ℕ) → (types : List table.Row) → (expansion : ℕ) → Mono types → Program
program_with initial types expansion e = record { initial = initial; types = types; expansion = expansion; body = e }

-- the code has the sets of a program of these types with this body: all functions of each type, in rising order
abbrev pub IsRising : Flow → (types : List table.Row) → Mono types → Type 0
IsRising flow types e = (initial : List ℕ) (expansion : ℕ) → Has flow (rising (program_with initial types expansion e))

-- the code has the sets of a solution
pub record IsSolution (flow : Flow) (types : List table.Row) (e : Mono types) : Type 0 where
  pub whole : clean.Flow
  pub has : Has flow whole
  pub solves : SolvesProgram types whole e
