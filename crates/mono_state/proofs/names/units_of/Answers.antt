use Rattle.std.proofs.Common.{ap, ◌∙◌, arith}
use Rattle.std.proofs.lemmas.List.{take_all}
use Rattle.monomorphise.specs.Monomorphise.{units}
use Rattle.mono_state.proofs.Listing.{units-none, units-at}
use Rattle.mono_state.proofs.names.units_of.Goals as goal

pub loop-i-init : goal.loop-i-init
loop-i-init c = units-none c.args.closed.now c.new-numbers.result.items c.new-numbers.ensures.items

pub loop-i-preserved : goal.loop-i-preserved
loop-i-preserved c =
    units-at c.args.closed.now c.loop-i.closed c.unit_of.new.closed c.args.parameters.now c.loop-i.i c.loop-i.numbers.items c.push.new.self.items c.in_ok-n.n (omega arith) c.loop-i.invariant
    c.in_ok-n.ensures.earlier_stay c.in_ok-n.ensures.is c.in_ok-push.ensures.items

pub returns-clause-is : goal.returns-clause-is
returns-clause-is c = c.loop-i.invariant.is ∙ ap units (take_all c.loop-i.i c.args.parameters.now (omega arith))
