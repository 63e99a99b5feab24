use Rattle.std.proofs.Common.{◌≡◌, ◌≤◌, ◌<◌, ℕ, true, length, get_or}
use Rattle.mlc_faults.specs.Files.{is_in_line}
use Rattle.mlc_faults.proofs.files.line_start.Given as goal

abbrev pub invariant-loop-start : goal.invariant-loop-start
invariant-loop-start l =
    (l.start ≤ length l.before)
    × ((k : ℕ) → l.start ≤ k → k < length l.before → is_in_line (get_or l.before k 0) ≡ true)

abbrev pub decreases-loop-start : goal.decreases-loop-start
decreases-loop-start l = l.start
