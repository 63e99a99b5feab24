use Rattle.std.proofs.Common.{◌≡◌, ℕ, suc, ◌-◌, length, get_or, false}
use Rattle.mono_needed.proofs.marks.reach.Given as goal

abbrev pub invariant-loop-marks : goal.invariant-loop-marks
invariant-loop-marks l = (k : ℕ) → get_or l.marks.items k false ≡ get_or l.fn.marks.items k false

abbrev pub decreases-loop-marks : goal.decreases-loop-marks
decreases-loop-marks l = suc l.number - length l.marks.items
