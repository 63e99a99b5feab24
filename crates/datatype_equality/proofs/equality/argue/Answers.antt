use Rattle.std.proofs.Common.{[]}
use Rattle.datatype_equality.proofs.Opening.{within}
use Rattle.datatype_equality.proofs.Answering.{argued}
use Rattle.datatype_equality.proofs.equality.argue.Goals as goal

pub rest-requires : goal.rest-requires
rest-requires c = within [] 0 c.args.count c.args.argument.ty c.args.graph.now c.vertex.new.self c.in_ok-v.v c.args.pending.now.items c.vertex.new.pending.items c.requires c.in_ok-v.ensures

pub returns : goal.returns
returns c = λ ts first. argued ts first c.args.count c.args.argument c.args.graph.now c.vertex.new.self c.rest.new.self c.in_ok-v.v c.args.pending.now.items c.vertex.new.pending.items c.requires c.in_ok-v.ensures c.in_ok-rest.ensures
