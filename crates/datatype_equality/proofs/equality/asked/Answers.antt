use Rattle.std.proofs.Common.{rules, ◌<◌, subst}
use Rattle.std.proofs.lemmas.List.{take_all}
use Rattle.std.proofs.lemmas.List.Elements.{All-contains}
use Rattle.datatype_equality.specs.Holding.{Holds}
use Rattle.datatype_equality.proofs.Answering.{holds-empty, argued-next, popped, lighter-popped}
use Rattle.datatype_equality.proofs.equality.asked.Goals as goal

pub loop-argument-init : goal.loop-argument-init
loop-argument-init c = holds-empty c.args.types.now c.args.first c.args.count c.args.arguments.now c.in_ok-graph.graph c.new-pending.result.items c.in_ok-graph.ensures c.new-pending.ensures.items

pub loop-argument-preserved : goal.loop-argument-preserved
loop-argument-preserved c = argued-next c.args.types.now c.args.first c.args.count c.args.arguments.now c.loop-argument.argument-index _ c.loop-argument.graph c.argue.new.graph c.loop-argument.pending.items c.argue.new.pending.items
    (search rules) (search rules) (λ b d. All-contains (λ a. a.datatype < c.args.count) c.args.arguments.now b c.requires d) (c.in_ok-argue.ensures c.args.types.now c.args.first) c.loop-argument.invariant

pub loop-k-init : goal.loop-k-init
loop-k-init c = subst (λ l. Holds c.args.types.now c.args.first c.args.count c.args.arguments.now c.loop-argument.graph l c.loop-argument.pending.items) (take_all c.loop-argument.argument-index c.args.arguments.now (search rules)) c.loop-argument.invariant

pub loop-k-smaller : goal.loop-k-smaller
loop-k-smaller c = lighter-popped c.args.types.now c.args.first c.args.count c.args.arguments.now c.loop-k.graph c.open.new.graph c.in-Some.k c.loop-k.pending.items c.pop.new.self.items c.open.new.pending.items c.in-Some.ensures.items c.in_ok-open.ensures c.loop-k.invariant

pub loop-k-preserved : goal.loop-k-preserved
loop-k-preserved c = c.in_ok-open.ensures.holds c.args.arguments.now c.args.arguments.now (popped c.args.types.now c.args.first c.args.count c.args.arguments.now c.loop-k.graph c.in-Some.k c.loop-k.pending.items c.pop.new.self.items c.in-Some.ensures.items c.loop-k.invariant)

pub returns : goal.returns
returns c = subst (Holds c.args.types.now c.args.first c.args.count c.args.arguments.now c.loop-k.graph c.args.arguments.now) (search rules) c.loop-k.invariant
