use Rattle.std.proofs.Common.{◌≡◌, ◌<◌, List, [], ◌∷◌, ◌++◌, length, map, get_or, nat_eq, refl, sym, ap, subst, ◌∙◌, add-one, arith}
use Rattle.indexmap.specs.IndexMap.{get}
use Rattle.ty_solve.specs.Places.{AreNoted}
use Rattle.mlc_names.specs.declared.label.Label.{Label}
use Rattle.ty_table.specs.TypeAt.{type_at, AllBelow}
use Rattle.ty_table.proofs.Viewing.{below-at}
use Rattle.ty_solve.proofs.Arms.{map-get, all-length}
use Rattle.ty_solve.proofs.Holding.{below-append, map-snoc}
use Rattle.ty_solve.proofs.FieldLists.{union-begin, union-stays, union-grown, union-end, place-whole, not-whole, get-same}
use Rattle.ty_solve.proofs.Noting.{noted-push}
use Rattle.ty_solve.proofs.row.unite.Goals.{in-Some, in-None+in_ok-note-in-None+in_ok-add-in-None}
use Rattle.ty_solve.proofs.row.unite.Goals as goal

pub loop-i-init : goal.loop-i-init
loop-i-init c = record { flag = refl; union = union-begin _ _ c.requires.proper; noted = subst (λ (l : List Label). AreNoted l (length l) (get nat_eq c.in_ok-places.places)) c.deref.ensures.value c.in_ok-places.ensures; held = λ a b. a }

pub loop-i-preserved : goal.loop-i-preserved
loop-i-preserved c =
    let ts = c.args.table.now in
    let lt : c.loop-i.i < length c.args.types.now = omega (arith, c.loop-i-test.true, c.requires.other_length) in
    let n = c.requires.other_length ∙ sym (all-length ts c.args.types.now) in
    elim c.match-place.branch [
      | in-Some w ↦ rw w.row-is (rw w.places-is (rw add-one (record {
        flag = c.loop-i.invariant.flag;
        union = union-stays _ _ c.args.labels.now (map (type_at ts) c.args.types.now) c.loop-i.i _ c.loop-i-test.true n c.index-labels-i.is c.requires.other_proper _ _ c.loop-i.invariant.union (place-whole _ c.loop-i.row.labels.items _ _ refl (w.in-Some.ensures c.loop-i.row.labels.items _ c.loop-i.invariant.noted));
        noted = c.loop-i.invariant.noted;
        held = c.loop-i.invariant.held;
      })))
      | in-None+in_ok-note-in-None+in_ok-add-in-None w ↦ rw w.row-is (rw w.places-is (rw add-one (record {
        flag = w.in_ok-add-in-None.ensures.equality ∙ c.loop-i.invariant.flag;
        union = union-grown _ _ c.args.labels.now (map (type_at ts) c.args.types.now) c.loop-i.i c.index-labels-i.result (type_at ts (get_or c.args.types.now c.loop-i.i 0)) c.loop-i-test.true n c.index-labels-i.is (map-get ts c.args.types.now c.loop-i.i lt) c.requires.other_proper _ _ (map (type_at ts) c.loop-i.row.types.items) _ c.loop-i.invariant.union c.requires.proper (type_at ts (get_or c.args.types.now c.loop-i.i 0)) refl (not-whole _ _ c.loop-i.row.labels.items refl (w.in-None.ensures c.loop-i.row.labels.items _ c.loop-i.invariant.noted)) (w.in_ok-add-in-None.ensures.labels ∙ ap (λ (x : Label). c.loop-i.row.labels.items ++ x ∷ []) (sym (get-same c.args.labels.now c.loop-i.i _ _ c.loop-i-test.true c.index-labels-i.is w.index-labels-i-in-None-2.is))) (map-snoc ts _ _ _ w.in_ok-add-in-None.ensures.types);
        noted = noted-push c.loop-i.row.labels.items _ w.index-labels-i-in-None.result w.len.result (get nat_eq c.loop-i.places) (get nat_eq w.note.new.places) (omega (arith, w.len.ensures, c.loop-i.row.labels.ok.0)) (w.in_ok-add-in-None.ensures.labels ∙ ap (λ (x : Label). c.loop-i.row.labels.items ++ x ∷ []) (sym (get-same c.args.labels.now c.loop-i.i _ _ c.loop-i-test.true w.index-labels-i-in-None.is w.index-labels-i-in-None-2.is))) w.in_ok-note-in-None.ensures c.loop-i.invariant.noted;
        held = λ a b. subst (AllBelow (length ts)) (sym w.in_ok-add-in-None.ensures.types) (below-append (length ts) _ _ (c.loop-i.invariant.held a b) (below-at (length ts) c.args.types.now c.loop-i.i b lt, tt));
      })))
    ]

pub returns-clause-equality : goal.returns-clause-equality
returns-clause-equality c = c.loop-i.invariant.flag

pub returns-clause-union : goal.returns-clause-union
returns-clause-union c =
    let e : c.loop-i.i ≡ length c.args.labels.now = omega (arith, c.loop-i-test.false, c.loop-i.auto.i-end) in
    union-end _ _ c.args.labels.now (map (type_at c.args.table.now) c.args.types.now) c.loop-i.i _ _ e (c.requires.other_length ∙ sym (all-length c.args.table.now c.args.types.now)) c.loop-i.invariant.union

pub returns-clause-held : goal.returns-clause-held
returns-clause-held c = c.loop-i.invariant.held
