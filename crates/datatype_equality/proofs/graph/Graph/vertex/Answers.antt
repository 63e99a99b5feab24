use Rattle.std.proofs.Common.{rules, sym, ◌∙◌}
use Rattle.datatype_equality.proofs.Made.{vertex-known, vertex-new}
use Rattle.datatype_equality.proofs.graph.Graph.vertex.Goals as goal

pub returns-in-Some : goal.returns-in-Some
returns-in-Some c = vertex-known c.args.count c.args.k c.self.inside.asked.keys c.self.inside.rests.items c.self.inside.fails.items c.args.self.now c.args.pending.now.items c.in-Some.position c.self.view_is (sym c.in-Some.is ∙ c.get_index_of.ensures.index)

pub returns : goal.returns
returns c = vertex-new c.args.count c.args.k c.self.inside.asked.keys c.insert.new.self.keys c.self.inside.rests.items c.push.new.self.items c.self.inside.fails.items c.args.self.now c.args.pending.now.items c.push-2.new.self.items c.new.result
    _ c.self.view_is (search rules) c.in_ok-insert.ensures.keys (search rules) (search rules) (search rules) (search rules)
