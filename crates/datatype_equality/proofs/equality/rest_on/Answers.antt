use Rattle.std.proofs.Common.{rules, [], subst}
use Rattle.std.proofs.lemmas.List.{take_all}
use Rattle.datatype_equality.specs.Holding.{Rested}
use Rattle.datatype_equality.proofs.Resting.{rested-none, vertex-within, taken}
use Rattle.datatype_equality.proofs.equality.rest_on.Goals as goal

pub loop-part-init : goal.loop-part-init
loop-part-init c = λ ts first. rested-none ts first c.args.count c.args.graph.now c.args.v c.args.pending.now.items c.requires

pub vertex-requires : goal.vertex-requires
vertex-requires c = (c.loop-part.invariant [] 0).size

pub rest-requires : goal.rest-requires
rest-requires c = vertex-within [] 0 c.args.count c.loop-part.graph c.vertex.new.self _ c.in_ok-p.p c.loop-part.pending.items c.vertex.new.pending.items c.in_ok-p.ensures (c.loop-part.invariant [] 0).size

pub loop-part-preserved : goal.loop-part-preserved
loop-part-preserved c = λ ts first. taken ts first c.args.count c.args.graph.now c.loop-part.graph c.vertex.new.self c.rest.new.self c.args.parts.now c.loop-part.part-index _ c.args.v c.in_ok-p.p c.args.pending.now.items c.loop-part.pending.items c.vertex.new.pending.items
    (search rules) (search rules) (c.loop-part.invariant ts first) c.in_ok-p.ensures c.in_ok-rest.ensures

pub returns : goal.returns
returns c = λ ts first. subst (λ l. Rested ts first c.args.count c.args.graph.now c.loop-part.graph l c.args.v c.args.pending.now.items c.loop-part.pending.items) (take_all c.loop-part.part-index c.args.parts.now (search rules)) (c.loop-part.invariant ts first)
