use Rattle.std.proofs.Common.{arith}
use Rattle.mono_number.proofs.Heads.{counted-one, counted-none, counted-past}
use Rattle.mono_number.proofs.steps.count_heads.Goals as goal

pub returns-in_default : goal.returns-in_default
returns-in_default c = λ strings H.
    let e = c.loop-i.invariant.heads strings H in
    let n = counted-none c.args.words.now c.loop-i.i _ c.loop-i-test.true c.in_default.not-Function strings H in
    omega (arith, e, n)

pub loop-i-preserved : goal.loop-i-preserved
loop-i-preserved c =
    let few = c.loop-i.invariant.few in
    record {
      few = omega (arith, few);
      heads = λ strings H.
          let e = c.loop-i.invariant.heads strings H in
          let n = counted-one c.args.words.now c.loop-i.i _ c.loop-i-test.true c.in-Function.variable c.in-Function.ty c.in-Function.is strings H in
          omega (arith, e, n);
    }

pub returns : goal.returns
returns c = λ strings H.
    let e = c.loop-i.invariant.heads strings H in
    let n = counted-past c.args.words.now c.loop-i.i c.loop-i-test.false strings H in
    omega (arith, e, n)
