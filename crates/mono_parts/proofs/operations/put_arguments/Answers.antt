use Rattle.std.proofs.Common.{◌≡◌, ◌<◌, ◌-◌, ◌+◌, [], length, drop, subst, arith}
use Rattle.std.proofs.lemmas.List.{drop_all}
use Rattle.mono_parts.proofs.Lists.{ArgumentsPut, arguments-none, arguments-more}
use Rattle.mono_parts.proofs.Putting.{dropped-at}
use Rattle.mono_parts.proofs.operations.put_arguments.Goals as goal

pub loop-left-init : goal.loop-left-init
loop-left-init c = record {
  within = omega arith;
  put = arguments-none c.args.copier.now c.put.new.self (drop (length c.args.arguments.now) c.args.arguments.now) (drop_all (length c.args.arguments.now) c.args.arguments.now (omega arith)) c.in_ok-put.ensures.goes c.in_ok-put.ensures.put;
}

pub atom-requires : goal.atom-requires
atom-requires c = (c.loop-left.invariant.put.goes []).open_

pub put-requires-in-loop-left : goal.put-requires-in-loop-left
put-requires-in-loop-left c = (c.in_ok-k.ensures.goes []).open_

pub loop-left-preserved : goal.loop-left-preserved
loop-left-preserved c =
    let w = c.loop-left.invariant.within in
    let q = c.loop-left-test.true in
    let m : c.loop-left.left ≡ (c.loop-left.left - 1) + 1 = omega (arith, q) in
    let lt : c.loop-left.left - 1 < length c.args.arguments.now = omega (arith, w, q) in
    record {
      within = omega (arith, w);
      put = arguments-more c.args.copier.now c.loop-left.copier c.atom.new.copier c.put-in-loop-left.new.self (drop c.loop-left.left c.args.arguments.now) (drop (c.loop-left.left - 1) c.args.arguments.now) _ c.in_ok-k.k
          (dropped-at c.args.arguments.now _ (c.loop-left.left - 1) c.loop-left.left m lt) c.loop-left.invariant.put c.in_ok-k.ensures.goes c.in_ok-k.ensures.noted c.in_ok-k.ensures.is c.in_ok-put-2.ensures.goes c.in_ok-put-2.ensures.put;
    }

pub returns-clause-goes : goal.returns-clause-goes
returns-clause-goes c = c.loop-left.invariant.put.goes

pub returns-clause-made : goal.returns-clause-made
returns-clause-made c =
    let z : c.loop-left.left ≡ 0 = (let q = c.loop-left-test.false in omega (arith, q)) in
    (subst (λ k. ArgumentsPut c.args.copier.now c.loop-left.copier (drop k c.args.arguments.now)) z c.loop-left.invariant.put).put
