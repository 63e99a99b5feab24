use Rattle.prog_tree.specs.Readings.{reading}
use Rattle.prog_tree.proofs.Weighing.{decs-weigh}
use Rattle.prog_tree.proofs.nodes.nodes.Goals as goal

pub returns : goal.returns
returns c = rw (decs-weigh (reading c.args.tables.now) c.args.declarations.now) c.decs_nodes.ensures
