use Rattle.std.proofs.Common.{true, false}
use Rattle.prog_pats.proofs.Rows.{initial-is}
use Rattle.prog_pats.proofs.exceptions.initial_argument.Goals as goal

pub returns-then-is_initial : goal.returns-then-is_initial
returns-then-is_initial c = λ t. initial-is c.args.number c.is_initial.result true c.is_initial.ensures c.if-is_initial.true

pub returns-else-is_initial : goal.returns-else-is_initial
returns-else-is_initial c = λ t. initial-is c.args.number c.is_initial.result false c.is_initial.ensures c.if-is_initial.false
