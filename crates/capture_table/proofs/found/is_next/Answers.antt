use Rattle.capture_table.proofs.Levels.{next-is}
use Rattle.capture_table.proofs.found.is_next.Goals as goal

pub returns-then-count-innermost-clause-used : goal.returns-then-count-innermost-clause-used
returns-then-count-innermost-clause-used c = λ uses ys. next-is c.args.innermost.now c.args.count c.args.variable uses ys c.if-count-innermost.true
