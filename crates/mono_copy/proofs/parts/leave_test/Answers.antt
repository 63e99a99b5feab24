use Rattle.mono_parts.proofs.of_mono_state.Going.{if-both}
use Rattle.mono_copy.proofs.Changing.{puts-then}
use Rattle.mono_copy.proofs.Leaves.{arm-puts, switch-puts}
use Rattle.mono_copy.proofs.parts.leave_test.Goals as goal

pub returns : goal.returns
returns c =
    if-both c.put_switch.result
    (λ x g p. puts-then (arm-puts c.args.case c.in_ok-leave_arm.ensures.goes c.in_ok-leave_arm.ensures.left) (switch-puts c.args.variable c.args.ty g p))
    c.put_switch.ensures.goes c.put_switch.ensures.put
