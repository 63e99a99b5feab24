use Rattle.std.proofs.Common.{◌≡◌, length, map, nat_eq, sym, ap, rules, add-one, ◌∙◌}
use Rattle.std.specs.Map.{lookup}
use Rattle.ty_table.specs.TypeAt.{type_at}
use Rattle.ty_solve.proofs.Arms.{all-length}
use Rattle.ty_solve.proofs.FieldLists.{no, not-proper, proper-next, repeats}
use Rattle.ty_solve.proofs.Noting.{noted-none}
use Rattle.ty_solve.proofs.row.is_proper.Goals as goal

pub returns-then-labels-types : goal.returns-then-labels-types
returns-then-labels-types c =
    let ne : (length c.args.labels.now ≡ length c.args.types.now → ⊥) = search rules in
    λ ts. no (not-proper c.args.labels.now (map (type_at ts) c.args.types.now) (λ e. ne (e ∙ all-length ts c.args.types.now)))

pub loop-i-init : goal.loop-i-init
loop-i-init c = record { proper = λ ts. tt; noted = noted-none c.args.labels.now _ (λ k. ap (lookup (nat_eq k)) c.new-places.ensures.empty) }

pub returns-in-Some : goal.returns-in-Some
returns-in-Some c = λ ts. no (repeats c.args.labels.now (map (type_at ts) c.args.types.now) c.loop-i.i _ _ c.loop-i-test.true c.index-labels-i.is (c.in-Some.ensures c.args.labels.now c.loop-i.i c.loop-i.invariant.noted))

pub loop-i-preserved : goal.loop-i-preserved
loop-i-preserved c =
    let e : length c.args.labels.now ≡ length c.args.types.now = search rules in
    record {
      proper = rw add-one (λ ts. proper-next c.args.labels.now (map (type_at ts) c.args.types.now) c.loop-i.i _ c.loop-i-test.true (e ∙ sym (all-length ts c.args.types.now)) c.index-labels-i.is (c.in-None.ensures c.args.labels.now c.loop-i.i c.loop-i.invariant.noted) (c.loop-i.invariant.proper ts));
      noted = c.in_ok-note-in-None.ensures c.args.labels.now c.loop-i.invariant.noted c.loop-i-test.true c.index-labels-i-in-None.is;
    }
