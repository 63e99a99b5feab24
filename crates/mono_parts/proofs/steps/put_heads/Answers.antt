use Rattle.std.proofs.Common.{◌≡◌, ◌<◌, ◌-◌, ◌+◌, [], length, drop, subst, arith}
use Rattle.std.proofs.lemmas.List.{drop_all}
use Rattle.mono_parts.proofs.Lists.{HeadsPut, heads-none, heads-more}
use Rattle.mono_parts.proofs.Putting.{dropped}
use Rattle.mono_parts.proofs.steps.put_heads.Goals as goal

pub loop-left-init : goal.loop-left-init
loop-left-init c = record {
  within = omega arith;
  put = heads-none c.args.tables.now c.args.copier.now c.put.new.self c.args.list (drop (length c.args.functions.now) c.args.functions.now) (drop_all (length c.args.functions.now) c.args.functions.now (omega arith))
      (c.in_ok-put.ensures.goes c.args.tables.now.types) c.in_ok-put.ensures.put;
}

pub type_of-requires-clause-is_open : goal.type_of-requires-clause-is_open
type_of-requires-clause-is_open c = c.loop-left.invariant.put.goes.open_

pub type_of-requires-clause-right : goal.type_of-requires-clause-right
type_of-requires-clause-right c = c.loop-left.invariant.put.goes.right c.requires.right

pub copy_at-requires : goal.copy_at-requires
copy_at-requires c = c.in_ok-ty.ensures.goes.open_

pub put-requires-in-loop-left : goal.put-requires-in-loop-left
put-requires-in-loop-left c = (c.in_ok-variable.ensures.goes []).open_

pub loop-left-preserved : goal.loop-left-preserved
loop-left-preserved c =
    let w = c.loop-left.invariant.within in
    let q = c.loop-left-test.true in
    let m : c.loop-left.left ≡ (c.loop-left.left - 1) + 1 = omega (arith, q) in
    let lt : c.loop-left.left - 1 < length c.args.functions.now = omega (arith, w, q) in
    let t = c.args.tables.now in
    record {
      within = omega (arith, w);
      put = heads-more t c.args.copier.now c.loop-left.copier c.type_of.new.copier c.copy_at.new.copier c.put-in-loop-left.new.self c.args.list (drop c.loop-left.left c.args.functions.now) (drop (c.loop-left.left - 1) c.args.functions.now)
          c.index-functions-left.result c.in_ok-ty.ty c.in_ok-variable.variable (dropped c.args.functions.now c.index-functions-left.result (c.loop-left.left - 1) c.loop-left.left m lt c.index-functions-left.is) c.loop-left.invariant.put
          c.in_ok-ty.ensures.goes c.in_ok-ty.ensures.stays c.in_ok-ty.ensures.is (c.in_ok-variable.ensures.goes t.types) c.in_ok-variable.ensures.stays c.in_ok-variable.ensures.is
          (c.in_ok-put-2.ensures.goes t.types) c.in_ok-put-2.ensures.put;
    }

pub returns-clause-goes : goal.returns-clause-goes
returns-clause-goes c = c.loop-left.invariant.put.goes

pub returns-clause-put : goal.returns-clause-put
returns-clause-put c =
    let z : c.loop-left.left ≡ 0 = (let q = c.loop-left-test.false in omega (arith, q)) in
    (subst (λ k. HeadsPut c.args.tables.now c.args.copier.now c.loop-left.copier c.args.list (drop k c.args.functions.now)) z c.loop-left.invariant.put).put
