use Rattle.std.proofs.Common.{◌≡◌, ◌<◌, ◌-◌, ◌+◌, [], length, drop, subst, arith}
use Rattle.std.proofs.lemmas.List.{drop_all}
use Rattle.mono_state.proofs.Going.{goes-nowhere}
use Rattle.mono_parts.proofs.Lists.{ParametersLeft, left-none, left-more}
use Rattle.mono_parts.proofs.Putting.{dropped-at}
use Rattle.mono_parts.proofs.steps.leave_parameters.Goals as goal

pub loop-left-init : goal.loop-left-init
loop-left-init c = record {
  within = omega arith;
  put = left-none c.args.tables.now c.args.copier.now (drop (length c.args.parameters.now) c.args.parameters.now) (drop_all (length c.args.parameters.now) c.args.parameters.now (omega arith)) (goes-nowhere c.args.tables.now.types c.args.copier.now c.requires.is_open);
}

pub leave_variable-requires : goal.leave_variable-requires
leave_variable-requires c = c.loop-left.invariant.put.goes.open_

pub parameter_of-requires-clause-is_open : goal.parameter_of-requires-clause-is_open
parameter_of-requires-clause-is_open c = (c.leave_variable.ensures.goes []).open_

pub parameter_of-requires-clause-right : goal.parameter_of-requires-clause-right
parameter_of-requires-clause-right c = (c.leave_variable.ensures.goes c.args.tables.now.types).right (c.loop-left.invariant.put.goes.right c.requires.right)

pub put-requires : goal.put-requires
put-requires c = c.in_ok-made.ensures.goes.open_

pub loop-left-preserved : goal.loop-left-preserved
loop-left-preserved c =
    let w = c.loop-left.invariant.within in
    let q = c.loop-left-test.true in
    let m : c.loop-left.left ≡ (c.loop-left.left - 1) + 1 = omega (arith, q) in
    let lt : c.loop-left.left - 1 < length c.args.parameters.now = omega (arith, w, q) in
    let t = c.args.tables.now.types in
    record {
      within = omega (arith, w);
      put = left-more c.args.tables.now c.args.copier.now c.loop-left.copier c.leave_variable.new.copier c.parameter_of.new.copier c.put.new.self (drop c.loop-left.left c.args.parameters.now) (drop (c.loop-left.left - 1) c.args.parameters.now)
          _ c.in_ok-made.made (dropped-at c.args.parameters.now _ (c.loop-left.left - 1) c.loop-left.left m lt) c.loop-left.invariant.put (c.leave_variable.ensures.goes t) c.leave_variable.ensures.left
          c.in_ok-made.ensures.goes c.in_ok-made.ensures.stays c.in_ok-made.ensures.is (c.in_ok-put.ensures.goes t) c.in_ok-put.ensures.put;
    }

pub returns-clause-goes : goal.returns-clause-goes
returns-clause-goes c = c.loop-left.invariant.put.goes

pub returns-clause-left : goal.returns-clause-left
returns-clause-left c =
    let z : c.loop-left.left ≡ 0 = (let q = c.loop-left-test.false in omega (arith, q)) in
    (subst (λ k. ParametersLeft c.args.tables.now c.args.copier.now c.loop-left.copier (drop k c.args.parameters.now)) z c.loop-left.invariant.put).left
