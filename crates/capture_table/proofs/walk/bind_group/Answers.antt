use Rattle.std.proofs.Common.{◌≡◌, ◌+◌, ◌-◌, ◌<◌, length, refl, arith}
use Rattle.capture_scope.proofs.Repeating.{twice-passed}
use Rattle.capture_table.proofs.Twice.{member-twice}
use Rattle.capture_table.proofs.walk.bind_group.Goals as goal

pub returns-in_err-add-clause-twice : goal.returns-in_err-add-clause-twice
returns-in_err-add-clause-twice c =
    let w = c.loop-left.invariant.within in
    let q = c.loop-left-test.true in
    let m : c.loop-left.left ≡ (c.loop-left.left - 1) + 1 = omega (arith, q) in
    let lt : c.loop-left.left - 1 < length c.args.members.now = omega (arith, w, q) in
    twice-passed c.from_residual.result c.in_err-add.field-0.0 c.from_residual.ensures.1 _ _
    (member-twice c.args.members.now c.loop-left.left (c.loop-left.left - 1) _ _ c.args.scope.now c.loop-left.scope m lt refl c.loop-left.invariant.bound) c.in_err-add.ensures.twice
