use Rattle.std.proofs.Common.{◌≡◌, ◌<◌, map, length, slice_set, sym, subst, arith, ap, ◌∙◌}
use Rattle.ty_table.proofs.Keeping.{length-map}
use Rattle.mono_types.specs.Rows.{row_of, rows_of, IsEntered}
use Rattle.mono_types.proofs.Keeping.{put, stored-put, entered}
use Rattle.mono_types.proofs.types.Types.enter.Goals as goal

pub invariant_of-self-2 : goal.invariant_of-self-2
invariant_of-self-2 c =
    let l = length-map row_of c.self.inside.rows.items in
    let v : length (rows_of c.self.inside.rows.items) ≡ length c.args.self.now = ap length c.self.view_is in
    stored-put c.self.inside.rows.items (map (λ k. k.items) c.self.inside.codes.keys) c.args.n c.index_mut-row.result.now c.push.new.self (omega (arith, l, v, c.requires)) c.index_mut-row.ensures.value c.self.invariant

pub returns-clause-ok : goal.returns-clause-ok
returns-clause-ok c =
    let l = length-map row_of c.self.inside.rows.items in
    let v : length (rows_of c.self.inside.rows.items) ≡ length c.args.self.now = ap length c.self.view_is in
    subst (λ t. IsEntered t c.args.n c.args.number c.args.argument (rows_of (slice_set c.self.inside.rows.items c.args.n (put c.index_mut-row.result.now c.push.new.self)))) c.self.view_is
    (entered c.self.inside.rows.items c.args.n c.args.number c.args.argument c.index_mut-row.result.now c.push.new.self c.in_ok-push.field-0 (omega (arith, l, v, c.requires)) c.index_mut-row.ensures.value c.in_ok-push.ensures.new c.in_ok-push.ensures.pushed c.in_ok-push.ensures.kept)
