use Rattle.closure_bodies.proofs.of_capture_table.Walking.{first-at, first-past}
use Rattle.closure_first.proofs.codes.number_at.Goals as goal

pub returns-then-given-parameters : goal.returns-then-given-parameters
returns-then-given-parameters c = first-at c.args.parameters.now c.args.given c.args.last _ c.if-given-parameters.true

pub returns-else-given-parameters : goal.returns-else-given-parameters
returns-else-given-parameters c = first-past c.args.parameters.now c.args.given c.args.last c.if-given-parameters.false
