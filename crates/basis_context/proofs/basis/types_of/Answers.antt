use Rattle.std.proofs.Common.{◌-◌, refl, arith}
use Rattle.basis_context.proofs.Making.{types-none, types-so-far, types-all}
use Rattle.basis_context.proofs.basis.types_of.Goals as goal

pub loop-i-init : goal.loop-i-init
loop-i-init c = types-none c.args.bodies.now _ _ refl c.new-types.ensures

pub loop-i-preserved : goal.loop-i-preserved
loop-i-preserved c =
    types-so-far c.args.bodies.now (c.loop-i.i - 1) c.loop-i.i _ _ c.arity_of.result c.loop-i.types _ c.requires c.loop-i.invariant (omega (arith, c.loop-i-test.true)) c.arity_of.ensures c.in_ok-bind.ensures.bound

pub returns-clause-types : goal.returns-clause-types
returns-clause-types c = types-all c.args.bodies.now c.loop-i.i c.loop-i.types (omega (arith, c.loop-i-test.false)) c.loop-i.invariant
