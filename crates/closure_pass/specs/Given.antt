-- The program that parts of one stand for, and what is asked of it.
use Rattle.std.specs.Prelude.{ℕ, List, [], ◌∷◌, ◌++◌}
use Rattle.ir_mono.specs.Types.{Row}
use Rattle.ir_mono.specs.Mono.{Program}
use Rattle.ir_mono.specs.Explicit.{IsExplicit}
use Rattle.ir_mono.specs.WellFormed.{IsWellFormed}
use Rattle.plain_tree.specs.declared.tree.Exp.{Exp}
use Rattle.mono_bound.specs.Reads.{mono_of}
use Rattle.closure_first.specs.of_flow_types.Flows.{program_with}

abbrev pub given : (initial : List ℕ) → List Row → (expansion : ℕ) → (strings : List (List ℕ)) → Exp → Program
given initial types expansion strings body = program_with initial types expansion (mono_of types strings body)

-- behind its strings stands the empty one, for numbers of none
abbrev pub texts : List (List ℕ) → List (List ℕ)
texts strings = strings ++ [] ∷ []

-- well formed, and no function by itself stands in it
pub record IsReady (p : Program) : Type 0 where
  pub formed : IsWellFormed p
  pub explicit : IsExplicit p.types [] p.body
