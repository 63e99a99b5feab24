use Rattle.std.proofs.Common.{reverse, refl, arith}
use Rattle.closure_parts.proofs.Finding.{numbers-next, numbers-all}
use Rattle.closure_parts.proofs.places.numbers_of.Goals as goal

pub loop-i-preserved : goal.loop-i-preserved
loop-i-preserved c = numbers-next (reverse c.args.constructors.now) c.loop-i.i _ c.loop-i.numbers.items c.push_number.new.numbers.items refl c.in_ok-push_number.ensures c.loop-i.invariant

pub returns : goal.returns
returns c =
    numbers-all c.args.constructors.now c.loop-i.i c.loop-i.numbers.items c.reverse.new.self.items
    (let a = c.loop-i-test.false in
    let b = c.loop-i.auto.i-end in
    let d = c.len-i-end.ensures in
    omega (arith, a, b, d))
    c.loop-i.invariant c.reverse.ensures.items
