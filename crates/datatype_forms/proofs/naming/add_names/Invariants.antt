use Rattle.std.proofs.Common.{◌-◌, ◌≤◌}
use Rattle.datatype_forms.specs.Steps.{AreNamed}
use Rattle.datatype_forms.proofs.naming.add_names.Given as goal

abbrev pub invariant-loop-made : goal.invariant-loop-made
invariant-loop-made l = record { named : AreNamed l.fn.state l.fn.context l.made l.state l.context; most : l.made ≤ l.count }

abbrev pub decreases-loop-made : goal.decreases-loop-made
decreases-loop-made l = l.count - l.made
