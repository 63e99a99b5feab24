-- Of which identifiers a machine has to have the texts.
use Rattle.std.specs.Prelude.{◌≡◌, ℕ, List, Contains}
use Rattle.ir_ssa.specs.Tree.{Program}
use Rattle.ir_ssa.specs.Meaning.{meaning}
use Rattle.ir_code.specs.Run.{RunResult}
use Rattle.same_runs.specs.SameRuns.{SameRuns}
use Rattle.ssa_tree.specs.Exceptions.{exceptions}

-- a machine that does what a program does by some texts of identifiers does so by all that are the same for the exceptions of the program
abbrev pub TextsOfMadeAreEnough : Type 0
TextsOfMadeAreEnough =
    (p : Program) (text_of text_in : ℕ → List ℕ) (run : ℕ → RunResult)
    → ((identifier : ℕ) → Contains (exceptions p) identifier → text_of identifier ≡ text_in identifier) → SameRuns text_of (meaning p) run
    → SameRuns text_in (meaning p) run
