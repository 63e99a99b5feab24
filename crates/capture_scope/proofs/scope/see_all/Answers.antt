use Rattle.std.proofs.Common.{refl}
use Rattle.capture_scope.proofs.Repeating.{twice-passed, all-twice}
use Rattle.capture_scope.proofs.scope.see_all.Goals as goal

pub returns-in_err-see-clause-twice : goal.returns-in_err-see-clause-twice
returns-in_err-see-clause-twice c =
    twice-passed c.from_residual.result c.in_err-see.field-0.0 c.from_residual.ensures.1 _ _ (all-twice c.args.seen.now.keys c.loop-i.seen.keys c.args.variables.now c.loop-i.i _ _ c.loop-i-test.true refl c.loop-i.invariant) c.in_err-see.ensures.twice
