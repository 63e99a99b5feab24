use Rattle.std.proofs.Common.{map}
use Rattle.elab_exps.specs.Groups.{function_bind}
use Rattle.elab_exps.proofs.Heading.{HeadsSoFar}
use Rattle.elab_exps.proofs.heads.reserve_names.Given as goal

abbrev pub invariant-loop-i : goal.invariant-loop-i
invariant-loop-i l = HeadsSoFar l.fn.state l.context (map function_bind l.functions) l.i l.state l.heads.items

abbrev pub decreases-loop-i : goal.decreases-loop-i
decreases-loop-i l = l.i
