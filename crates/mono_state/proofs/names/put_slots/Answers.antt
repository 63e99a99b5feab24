use Rattle.mono_state.proofs.Standing.{stands-begin}
use Rattle.mono_state.proofs.names.put_slots.Goals as goal

pub loop-left-init : goal.loop-left-init
loop-left-init c = stands-begin c.args.parameters.now c.args.types.now c.args.slots.now c.min-left.result c.min-left.ensures
