use Rattle.tests_check.specs.Walk.{known_as}
use Rattle.tests_check.proofs.Groups.{Gathered}
use Rattle.tests_check.proofs.group.bind_functions.Given as goal

abbrev pub invariant-loop-left : goal.invariant-loop-left
invariant-loop-left l = Gathered l.tables (known_as l.tables l.standing) l.fn.scope l.scope l.functions l.left

abbrev pub decreases-loop-left : goal.decreases-loop-left
decreases-loop-left l = l.left
