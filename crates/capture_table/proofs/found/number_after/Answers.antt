use Rattle.capture_table.proofs.Walking.{first-at, first-past}
use Rattle.capture_table.proofs.found.number_after.Goals as goal

pub returns-then-given-parameters : goal.returns-then-given-parameters
returns-then-given-parameters c = first-at c.args.parameters.now c.args.given c.args.last _ c.if-given-parameters.true

pub returns-else-given-parameters : goal.returns-else-given-parameters
returns-else-given-parameters c = first-past c.args.parameters.now c.args.given c.args.last c.if-given-parameters.false
