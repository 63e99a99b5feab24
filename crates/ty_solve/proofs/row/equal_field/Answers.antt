use Rattle.std.proofs.Common.{◌<◌, length, map, get_or, refl, arith, rules}
use Rattle.ty_table.specs.TypeAt.{type_at}
use Rattle.ty_table.proofs.Viewing.{below-at}
use Rattle.ty_solve.proofs.Arms.{map-get}
use Rattle.ty_solve.proofs.Holding.{held-push}
use Rattle.ty_solve.proofs.Slots.{tasks-push}
use Rattle.ty_solve.proofs.FieldLists.{field-none, field-some, not-whole}
use Rattle.ty_solve.proofs.row.equal_field.Goals as goal

pub bounds-types-i : goal.bounds-types-i
bounds-types-i c = let r = (c.in-Some.ensures c.args.labels.now _ c.requires.noted).in_range in omega (arith, r, c.requires.same_length)

pub offset_bounds-types-i : goal.offset_bounds-types-i
offset_bounds-types-i c =
    let r = (c.in-Some.ensures c.args.labels.now _ c.requires.noted).in_range in
    let lt : c.in-Some.i < length c.args.types.now = omega (arith, r, c.requires.same_length) in
    search rules

pub returns-in-None-clause-meets : goal.returns-in-None-clause-meets
returns-in-None-clause-meets c = field-none _ _ _ _ _ (not-whole _ _ c.args.labels.now refl (c.in-None.ensures c.args.labels.now _ c.requires.noted))

pub returns-in_ok-push-in-Some-clause-meets : goal.returns-in_ok-push-in-Some-clause-meets
returns-in_ok-push-in-Some-clause-meets c =
    let p = c.in-Some.ensures c.args.labels.now _ c.requires.noted in
    let r = p.in_range in
    let lt : c.in-Some.i < length c.args.types.now = omega (arith, r, c.requires.same_length) in
    field-some _ _ _ _ c.args.labels.now (map (type_at c.args.table.now) c.args.types.now) _ c.in-Some.i (type_at c.args.table.now (get_or c.args.types.now c.in-Some.i 0)) (type_at c.args.table.now c.args.t) (type_at c.args.table.now (get_or c.args.types.now c.in-Some.i 0)) c.requires.proper refl p (map-get c.args.table.now c.args.types.now c.in-Some.i lt) refl refl (tasks-push c.args.table.now _ _ _ c.in_ok-push-in-Some.ensures.items)

pub returns-in_ok-push-in-Some-clause-held : goal.returns-in_ok-push-in-Some-clause-held
returns-in_ok-push-in-Some-clause-held c =
    let p = c.in-Some.ensures c.args.labels.now _ c.requires.noted in
    let r = p.in_range in
    let lt : c.in-Some.i < length c.args.types.now = omega (arith, r, c.requires.same_length) in
    λ h a t. held-push (length c.args.table.now) _ _ _ c.in_ok-push-in-Some.ensures.items t (h, below-at (length c.args.table.now) c.args.types.now c.in-Some.i a lt)
