use Rattle.std.proofs.Common.{arith}
use Rattle.mono_place.proofs.Placed.{slot-at, no-slot}
use Rattle.mono_place.proofs.walk.slot.Goals as goal

pub returns-then-v-slots : goal.returns-then-v-slots
returns-then-v-slots c = slot-at c.args.slots.now c.args.v c.if-v-slots.true

pub returns-else-v-slots : goal.returns-else-v-slots
returns-else-v-slots c = no-slot c.args.slots.now c.args.v (omega arith)
