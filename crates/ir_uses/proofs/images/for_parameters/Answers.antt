use Rattle.std.proofs.Common.{arith}
use Rattle.ir_uses.proofs.Putting.{parameter-more}
use Rattle.ir_uses.proofs.images.for_parameters.Goals as goal

pub loop-i-preserved : goal.loop-i-preserved
loop-i-preserved c = λ v. let t = c.loop-i-test.true in let r = c.requires in
    parameter-more c.args.parameters.now c.args.types.now c.loop-i.i _ _ c.loop-i.images c.push.new.self c.in_ok-push.field-0 t (omega arith) c.loop-i.invariant c.in_ok-push.ensures.new c.in_ok-push.ensures.pushed c.in_ok-push.ensures.kept v
