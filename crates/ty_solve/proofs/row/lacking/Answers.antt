use Rattle.std.proofs.Common.{◌≤◌, length, add-one, refl, arith, subst}
use Rattle.mlc_names.specs.declared.label.Label.{Label}
use Rattle.ty_solve.specs.Rows.{Among}
use Rattle.ty_solve.proofs.FieldLists.{lacking-next, lacking-end, among-get, not-whole, place-whole, get-same}
use Rattle.ty_solve.proofs.row.lacking.Goals as goal

pub returns-in-None : goal.returns-in-None
returns-in-None c = record {
  among = among-get c.args.known.now c.loop-i.i _ c.loop-i-test.true c.index-known-i-in-None.is;
  missing = subst (λ (x : Label). Among x c.args.labels.now → ⊥) (get-same c.args.known.now c.loop-i.i _ _ c.loop-i-test.true c.index-known-i.is c.index-known-i-in-None.is) (not-whole _ _ c.args.labels.now refl (c.in-None.ensures c.args.labels.now _ c.in_ok-places.ensures));
}

pub loop-i-preserved : goal.loop-i-preserved
loop-i-preserved c = rw add-one (lacking-next c.args.known.now c.args.labels.now c.loop-i.i _ c.loop-i-test.true c.index-known-i.is (place-whole _ c.args.labels.now _ _ refl (c.in-Some.ensures c.args.labels.now _ c.in_ok-places.ensures)) c.loop-i.invariant)

pub returns : goal.returns
returns c =
    let ge : length c.args.known.now ≤ c.loop-i.i = omega (arith, c.loop-i-test.false) in
    let le : c.loop-i.i ≤ length c.args.known.now = omega (arith, c.loop-i.auto.i-end) in
    lacking-end c.args.known.now c.args.labels.now c.loop-i.i ge c.loop-i.invariant le
