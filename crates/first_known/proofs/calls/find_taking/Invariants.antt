use Rattle.std.proofs.Common.{◌≡◌, ◌≤◌, length, drop, map}
use Rattle.first_tables.specs.TablesOf.{member_of}
use Rattle.first_known.specs.Takings.{taking_of}
use Rattle.first_known.proofs.calls.find_taking.Given as goal

abbrev pub invariant-loop-left : goal.invariant-loop-left
invariant-loop-left l = record { within : l.left ≤ length l.set; so_far : l.taking ≡ taking_of l.arities (map member_of (drop l.left l.set)) }

abbrev pub decreases-loop-left : goal.decreases-loop-left
decreases-loop-left l = l.left
