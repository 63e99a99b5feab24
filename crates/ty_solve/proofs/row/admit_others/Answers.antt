use Rattle.std.proofs.Common.{◌≡◌, ◌<◌, true, false, length, map, get_or, refl, sym, ◌∙◌, arith, rules, add-one}
use Rattle.ty_table.specs.TypeAt.{type_at}
use Rattle.ty_table.proofs.Viewing.{below-at}
use Rattle.ty_solve.proofs.Arms.{map-get, all-length}
use Rattle.ty_solve.proofs.Holding.{held-push}
use Rattle.ty_solve.proofs.Slots.{tasks-push}
use Rattle.ty_solve.proofs.FieldLists.{others-off, others-begin, others-known, others-push, others-end, place-whole, not-whole}
use Rattle.ty_solve.proofs.row.admit_others.Goals.{in-Some, in-None+in_ok-push-in-None}
use Rattle.ty_solve.proofs.row.admit_others.Goals as goal

pub returns-then-not-equality-clause-admit : goal.returns-then-not-equality-clause-admit
returns-then-not-equality-clause-admit c = let e : c.args.equality ≡ false = search rules in others-off _ _ _ _ _ e

pub loop-i-init : goal.loop-i-init
loop-i-init c = record { admit = others-begin _ _ _; held = λ a h. h }

pub loop-i-preserved : goal.loop-i-preserved
loop-i-preserved c =
    let on : c.args.equality ≡ true = search rules in
    let lt : c.loop-i.i < length c.args.types.now = omega (arith, c.loop-i-test.true, c.requires) in
    let n = c.requires ∙ sym (all-length c.args.table.now c.args.types.now) in
    rw add-one (elim c.match-place.branch [
      | in-Some w ↦ rw w.tasks-is (record {
        admit = others-known c.args.labels.now (map (type_at c.args.table.now) c.args.types.now) c.loop-i.i c.index-labels-i.result c.loop-i-test.true n c.index-labels-i.is _ _ _ _ c.loop-i.invariant.admit (place-whole _ c.args.known.now _ _ refl (w.in-Some.ensures c.args.known.now _ c.in_ok-places.ensures));
        held = c.loop-i.invariant.held;
      })
      | in-None+in_ok-push-in-None w ↦ rw w.tasks-is (record {
        admit = others-push c.args.labels.now (map (type_at c.args.table.now) c.args.types.now) c.loop-i.i c.index-labels-i.result (type_at c.args.table.now (get_or c.args.types.now c.loop-i.i 0)) c.loop-i-test.true n c.index-labels-i.is (map-get c.args.table.now c.args.types.now c.loop-i.i lt) _ _ _ _ c.loop-i.invariant.admit _ _ on (not-whole _ _ c.args.known.now refl (w.in-None.ensures c.args.known.now _ c.in_ok-places.ensures)) refl (tasks-push c.args.table.now _ _ _ w.in_ok-push-in-None.ensures.items);
        held = λ a h. held-push (length c.args.table.now) _ _ _ w.in_ok-push-in-None.ensures.items (c.loop-i.invariant.held a h) (below-at (length c.args.table.now) c.args.types.now c.loop-i.i a lt);
      })
    ])

pub returns : goal.returns
returns c =
    let e : c.loop-i.i ≡ length c.args.labels.now = omega (arith, c.loop-i-test.false, c.loop-i.auto.i-end) in
    record {
      admit = others-end _ _ _ c.args.labels.now (map (type_at c.args.table.now) c.args.types.now) _ c.loop-i.i e (c.requires ∙ sym (all-length c.args.table.now c.args.types.now)) c.loop-i.invariant.admit;
      held = c.loop-i.invariant.held;
    }
