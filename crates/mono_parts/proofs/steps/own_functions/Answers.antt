use Rattle.std.proofs.Common.{◌≡◌, ◌<◌, ◌-◌, ◌+◌, length, drop, subst, arith}
use Rattle.std.proofs.lemmas.List.{drop_all}
use Rattle.mono_parts.proofs.Scopes.{OwnPut, own-none, own-more}
use Rattle.mono_parts.proofs.Putting.{dropped}
use Rattle.mono_parts.proofs.steps.own_functions.Goals as goal

pub loop-left-init : goal.loop-left-init
loop-left-init c = record {
  within = omega arith;
  put = own-none c.args.copier.now c.args.list (drop (length c.args.functions.now) c.args.functions.now) (drop_all (length c.args.functions.now) c.args.functions.now (omega arith)) c.requires.is_open c.requires.held;
}

pub loop-left-preserved : goal.loop-left-preserved
loop-left-preserved c =
    let w = c.loop-left.invariant.within in
    let q = c.loop-left-test.true in
    let m : c.loop-left.left ≡ (c.loop-left.left - 1) + 1 = omega (arith, q) in
    let lt : c.loop-left.left - 1 < length c.args.functions.now = omega (arith, w, q) in
    record {
      within = omega (arith, w);
      put = own-more c.args.copier.now c.loop-left.copier c.args.list c.bind.new.self (drop c.loop-left.left c.args.functions.now) (drop (c.loop-left.left - 1) c.args.functions.now) c.index-functions-left.result
          (dropped c.args.functions.now c.index-functions-left.result (c.loop-left.left - 1) c.loop-left.left m lt c.index-functions-left.is) c.loop-left.invariant.put c.in_ok-bind.ensures.bound;
    }

pub returns-clause-is_open : goal.returns-clause-is_open
returns-clause-is_open c = c.loop-left.invariant.put.open_

pub returns-clause-own : goal.returns-clause-own
returns-clause-own c =
    let z : c.loop-left.left ≡ 0 = (let q = c.loop-left-test.false in omega (arith, q)) in
    (subst (λ k. OwnPut c.args.copier.now c.loop-left.copier c.args.list (drop k c.args.functions.now)) z c.loop-left.invariant.put).own
