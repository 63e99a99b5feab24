use Rattle.std.proofs.Common.{reverse, arith}
use Rattle.closure_first.proofs.Parts.{parts-next, parts-all}
use Rattle.closure_first.proofs.shapes.parts_of.Goals as goal

pub loop-i-preserved : goal.loop-i-preserved
loop-i-preserved c = parts-next (reverse c.args.constructors.now) c.loop-i.i c.loop-i.parts.items c.push_taken.new.parts.items c.in_ok-push_taken.ensures c.loop-i.invariant

pub returns : goal.returns
returns c =
    parts-all c.args.truths c.args.constructors.now c.loop-i.i c.loop-i.parts.items c.push_truths.new.parts.items c.reverse.new.self.items
    (let a = c.loop-i-test.false in
    let b = c.loop-i.auto.i-end in
    let d = c.len-i-end.ensures in
    omega (arith, a, b, d))
    c.loop-i.invariant c.in_ok-push_truths.ensures c.reverse.ensures.items
