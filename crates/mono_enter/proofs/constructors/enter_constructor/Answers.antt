use Rattle.std.proofs.Common.{nat_eq, sym, ap, ◌∙◌, arith}
use Rattle.indexmap.specs.IndexMap.{get}
use Rattle.ty_table.specs.TypeAt.{type_at}
use Rattle.ir_tables.specs.Rows.{constructors_at}
use Rattle.ir_mono.specs.Types.{unit_number}
use Rattle.monomorphise.specs.Table.{place_type}
use Rattle.mono_enter.specs.Entering.{with_found_row}
use Rattle.mono_enter.proofs.Keeping.{if-ok, found-entered}
use Rattle.mono_enter.proofs.constructors.enter_constructor.Goals as goal

pub returns-in-Some-2-clause-entered : goal.returns-in-Some-2-clause-entered
returns-in-Some-2-clause-entered c =
    if-ok _ _ c.add_found.result
    (λ u h. found-entered (constructors_at c.args.sources.now c.args.constructors.now) c.args.sources.now c.enter_type.new.types c.add_found.new.types (place_type (λ v. unit_number) c.args.types.now (type_at c.args.closed.now c.args.ty)) c.in_ok-n.n
    c.args.constructor c.in-Some-2.found c.in_ok-n.ensures.is (let q = c.if-n-len.false in let r = c.len.ensures.is in omega (arith, q, r)) (sym c.constructor.ensures ∙ c.in-None.is)
    (λ r s. c.in_ok-found-in-None.ensures c.args.sources.now r s ∙ ap (with_found_row c.args.sources.now c.enter_type.new.types c.in_ok-n.n r c.args.constructor) c.in-Some-2.is) h)
    c.add_found.ensures.added

pub returns-in-Some-2-clause-right : goal.returns-in-Some-2-clause-right
returns-in-Some-2-clause-right c = if-ok _ _ c.add_found.result (λ u h. h c.args.closed.now (get nat_eq c.enter_type.new.known) c.in_ok-n.ensures.right) c.add_found.ensures.known
