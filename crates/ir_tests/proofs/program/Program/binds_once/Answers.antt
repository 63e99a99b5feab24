use Rattle.ir_tests.proofs.Once.{once-bound}
use Rattle.ir_tests.proofs.program.Program.binds_once.Goals as goal

pub returns : goal.returns
returns c = once-bound c.args.self.now.tables c.args.self.now.body c.in_ok-once.once c.in_ok-once.ensures
