use Rattle.mono_place.proofs.Going.{Pushed}
use Rattle.mono_place.proofs.walk.visit_all.Given as goal

abbrev pub invariant-loop-left : goal.invariant-loop-left
invariant-loop-left l = Pushed l.fn.steps.items l.steps.items l.parts l.left

abbrev pub decreases-loop-left : goal.decreases-loop-left
decreases-loop-left l = l.left
