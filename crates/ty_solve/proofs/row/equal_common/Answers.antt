use Rattle.std.proofs.Common.{◌≡◌, ◌<◌, length, map, get_or, sym, ◌∙◌, arith, add-one}
use Rattle.ty_table.specs.TypeAt.{type_at}
use Rattle.ty_table.proofs.Viewing.{below-at}
use Rattle.ty_solve.proofs.Arms.{map-get, all-length}
use Rattle.ty_solve.proofs.FieldLists.{fields-begin, fields-next, fields-end}
use Rattle.ty_solve.proofs.row.equal_common.Goals as goal

pub loop-i-init : goal.loop-i-init
loop-i-init c = record { meet = fields-begin _ _ _; held = λ a b h. h }

pub loop-i-preserved : goal.loop-i-preserved
loop-i-preserved c =
    let lt : c.loop-i.i < length c.args.types.now = omega (arith, c.loop-i-test.true, c.requires.same_length) in
    rw add-one (record {
      meet = fields-next c.args.labels.now (map (type_at c.args.table.now) c.args.types.now) c.loop-i.i c.index-labels-i.result (type_at c.args.table.now (get_or c.args.types.now c.loop-i.i 0)) c.loop-i-test.true (c.requires.same_length ∙ sym (all-length c.args.table.now c.args.types.now)) c.index-labels-i.is (map-get c.args.table.now c.args.types.now c.loop-i.i lt) _ _ _ _ _ c.loop-i.invariant.meet c.in_ok-equal_field.ensures.meets;
      held = λ a b h. c.in_ok-equal_field.ensures.held (below-at (length c.args.table.now) c.args.types.now c.loop-i.i a lt) b (c.loop-i.invariant.held a b h);
    })

pub returns : goal.returns
returns c =
    let e : c.loop-i.i ≡ length c.args.labels.now = omega (arith, c.loop-i-test.false, c.loop-i.auto.i-end) in
    record {
      meet = fields-end _ _ c.args.labels.now (map (type_at c.args.table.now) c.args.types.now) _ _ c.loop-i.i e (c.requires.same_length ∙ sym (all-length c.args.table.now c.args.types.now)) c.loop-i.invariant.meet;
      held = c.loop-i.invariant.held;
    }
