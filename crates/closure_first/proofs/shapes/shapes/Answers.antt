use Rattle.std.proofs.Common.{arith}
use Rattle.closure_first.proofs.Parts.{shapes-next, shapes-all}
use Rattle.closure_first.proofs.shapes.shapes.Goals as goal

pub loop-ty-preserved : goal.loop-ty-preserved
loop-ty-preserved c =
    shapes-next c.args.types.now c.loop-ty.ty c.loop-ty.made.items c.push.new.self.items c.in_ok-next.next
    (let a = c.loop-ty-test.true in
    let b = c.loop-ty.auto.ty-end in
    let d = c.len-ty-end.ensures.is in
    omega (arith, a, b, d))
    c.in_ok-push.ensures.items c.in_ok-next.ensures c.loop-ty.invariant

pub returns : goal.returns
returns c =
    shapes-all c.args.types.now c.loop-ty.ty c.loop-ty.made.items
    (let a = c.loop-ty-test.false in
    let b = c.loop-ty.auto.ty-end in
    let d = c.len-ty-end.ensures.is in
    omega (arith, a, b, d))
    c.loop-ty.invariant
