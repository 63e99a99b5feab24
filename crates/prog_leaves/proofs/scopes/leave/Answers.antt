use Rattle.prog_leaves.proofs.Inside.{left}
use Rattle.prog_leaves.proofs.scopes.leave.Goals as goal

pub returns : goal.returns
returns c = λ e i x. left c.args.to e c.args.environment.now (record { parameters = c.truncate.new.self; variables = c.truncate-2.new.self }) c.truncate.ensures c.truncate-2.ensures i x
