use Rattle.std.proofs.Common.{refl}
use Rattle.closed_types.proofs.Entering.{one-entered}
use Rattle.closed_types.proofs.parameters.parameters_at.Goals as goal

pub loop-i-preserved : goal.loop-i-preserved
loop-i-preserved c =
    one-entered c.loop-i.types c.variable.new.self c.args.types.now c.args.tyvars.now c.loop-i.i _ c.index-tyvars-i.result c.in_ok-number.number c.args.scope.now c.loop-i.scope c.bind_tyvar.new.self
    c.loop-i-test.true c.loop-i.invariant refl c.index-tyvars-i.is c.variable.ensures.earlier_stay c.in_ok-number.ensures.held c.in_ok-bind_tyvar.ensures.bound c.bind_tyvar.ensures.types
