-- What is claimed of the form.
use Rattle.std.specs.Prelude.{◌≡◌, ℕ, ◌≤◌}
use Rattle.ir_ssa.specs.Tree.{Program}
use Rattle.ir_ssa.specs.Meaning.{run_at, meaning}

-- as much fuel as turns is enough: calls that may nest deeper, and loops that may go round more often, change nothing
abbrev pub FuelIsEnough : Type 0
FuelIsEnough = (k m : ℕ) → m ≤ k → (p : Program) → run_at k p m ≡ meaning p m
