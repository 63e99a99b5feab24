use Rattle.std.proofs.Common.{◌≡◌, ◌++◌, length, reverse}
use Rattle.final_types.specs.Making.{visits}
use Rattle.final_types.proofs.making.visit_all.Given as goal

abbrev pub invariant-loop-part : goal.invariant-loop-part
invariant-loop-part l = visits l.place l.left.items ++ reverse l.steps.items ≡ visits l.place l.fn.parts.items ++ reverse l.fn.steps.items

abbrev pub decreases-loop-part : goal.decreases-loop-part
decreases-loop-part l = length l.left.items
