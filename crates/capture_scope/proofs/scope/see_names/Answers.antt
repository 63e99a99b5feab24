use Rattle.std.proofs.Common.{refl}
use Rattle.capture_scope.proofs.Repeating.{twice-passed, names-twice}
use Rattle.capture_scope.proofs.Seen.{names-done}
use Rattle.capture_scope.proofs.scope.see_names.Goals as goal

pub returns-clause-ok : goal.returns-clause-ok
returns-clause-ok c = names-done c.args.seen.now.keys c.loop-i.seen.keys c.args.group.now c.loop-i.i c.loop-i-test.false c.loop-i.invariant

pub returns-in_err-see-clause-twice : goal.returns-in_err-see-clause-twice
returns-in_err-see-clause-twice c =
    twice-passed c.from_residual.result c.in_err-see.field-0.0 c.from_residual.ensures.1 _ _ (names-twice c.args.seen.now.keys c.loop-i.seen.keys c.args.group.now c.loop-i.i _ _ c.loop-i-test.true refl c.loop-i.invariant) c.in_err-see.ensures.twice
