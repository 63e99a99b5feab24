use Rattle.std.proofs.Common.{false, sym}
use Rattle.elab_steps.proofs.Flexing.{asked-at, asked-past}
use Rattle.elab_steps.proofs.flexible.is_asked.Goals as goal

pub returns-then-i-asked : goal.returns-then-i-asked
returns-then-i-asked c = asked-at c.args.asked.now c.args.i false c.if-i-asked.true

pub returns-else-i-asked : goal.returns-else-i-asked
returns-else-i-asked c = sym (asked-past c.args.asked.now c.args.i c.if-i-asked.false)
