use Rattle.std.proofs.Common.{rules}
use Rattle.datatype_equality.proofs.Made.{edge-made, within-rests}
use Rattle.datatype_equality.proofs.graph.Graph.rest.Goals as goal

pub returns : goal.returns
returns c = edge-made c.self.inside.asked.keys c.self.inside.rests.items c.self.inside.fails.items c.args.v c.args.w c.args.self.now c.index_mut.result.now c.push.new.self c.self.view_is (search rules)
    (within-rests c.self.inside.asked.keys c.self.inside.rests.items c.self.inside.fails.items c.args.v c.args.self.now c.self.view_is c.requires) (search rules)
