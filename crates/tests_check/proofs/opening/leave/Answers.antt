use Rattle.tests_check.proofs.Names.{left-out}
use Rattle.tests_check.proofs.opening.leave.Goals as goal

pub returns : goal.returns
returns c = λ qs D m l. left-out c.args.marks.now c.truncate.new.self c.args.len qs D c.truncate.ensures m l
