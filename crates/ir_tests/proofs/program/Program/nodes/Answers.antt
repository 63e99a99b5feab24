use Rattle.ir_tests.proofs.Once.{weighed}
use Rattle.ir_tests.proofs.program.Program.nodes.Goals as goal

pub returns : goal.returns
returns c = weighed c.args.self.now.tables c.args.self.now.body c.nodes.result c.nodes.ensures
