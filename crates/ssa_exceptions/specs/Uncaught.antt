-- The exceptions that end a program.
use Rattle.std.specs.Prelude.{◌≡◌, ℕ, Contains}
use Rattle.mlc_runs.specs.Outcome.{uncaught}
use Rattle.ir_ssa.specs.Tree.{Program}
use Rattle.ir_ssa.specs.Meaning.{meaning}
use Rattle.ssa_tree.specs.Exceptions.{exceptions}

-- an exception that nothing handles is one that the program makes, or one of the initial basis
abbrev pub UncaughtIsMade : Type 0
UncaughtIsMade = (p : Program) (turns identifier : ℕ) → (meaning p turns).end ≡ uncaught identifier → Contains (exceptions p) identifier
