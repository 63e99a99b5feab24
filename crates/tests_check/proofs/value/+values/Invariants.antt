use Rattle.std.proofs.Common.{◌≡◌, drop}
use Rattle.ir_plain.specs.Tree as clean
use Rattle.ir_poly.specs.Tests.{poly}
use Rattle.ir_tables.specs.declared.tables.Tables.{Tables}
use Rattle.tests_check.proofs.Values.{steps_say, arms_say, attempts_say}
use Rattle.tests_check.proofs.value.+values.Given as goal

abbrev pub invariant-are_value_steps-loop-i : goal.invariant-are_value_steps-loop-i
invariant-are_value_steps-loop-i l = (t : Tables) (e : clean.Exp poly) → steps_say t e l.steps ≡ steps_say t e (drop l.i l.steps)

abbrev pub invariant-are_values-loop-i : goal.invariant-are_values-loop-i
invariant-are_values-loop-i l = (t : Tables) (d : clean.Exp poly) → attempts_say t d l.attempts ≡ attempts_say t d (drop l.i l.attempts)

abbrev pub invariant-are_value_arms-loop-i : goal.invariant-are_value_arms-loop-i
invariant-are_value_arms-loop-i l = (t : Tables) → arms_say t l.arms ≡ arms_say t (drop l.i l.arms)
