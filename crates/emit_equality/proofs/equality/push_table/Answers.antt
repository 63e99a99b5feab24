use Rattle.std.proofs.Common.{◌+◌, [], ◌∷◌, drop, sym, ap, ◌∙◌, subst, arith, append-nil, get_or}
use Rattle.std.proofs.lemmas.List.{drop_more, drop_all}
use Rattle.first_tables.specs.TablesOf.{items_of}
use Rattle.machine_routines.specs.EqualCode.{parts_size}
use Rattle.emit_equality.specs.Ways.{all_shapes, all_tags}
use Rattle.emit_equality.proofs.Pushed.{TableSoFar, table-next}
use Rattle.emit_equality.proofs.equality.push_table.Goals as goal

pub loop-i-preserved : goal.loop-i-preserved
loop-i-preserved c o first =
    let shapes = all_shapes c.args.shapes.now in
    let tags = c.args.tags.now in
    let i = c.loop-i.i in
    let this = c.index-tags-i.result in
    let so-far : TableSoFar shapes (all_tags tags) (items_of (get_or tags i this) ∷ all_tags (drop (i + 1) tags)) c.args.code.now.items c.loop-i.code.items o c.loop-i.place =
    subst (λ l. TableSoFar shapes (all_tags tags) l c.args.code.now.items c.loop-i.code.items o c.loop-i.place) (ap all_tags (drop_more tags i this c.loop-i-test.true))
    (c.loop-i.invariant o first) in
    table-next shapes (all_tags tags) (items_of (get_or tags i this)) (all_tags (drop (i + 1) tags)) c.args.code.now.items c.loop-i.code.items c.put.new.code.items
    c.jmp.result o c.loop-i.place c.in_ok-place.place c.in_ok-parts_size.field-0 so-far c.in_ok-put.ensures c.jmp.ensures c.in_ok-place.ensures
    (c.in_ok-parts_size.ensures ∙ ap (parts_size shapes) (c.deref.ensures.value ∙ ap items_of c.index-tags-i.is))

pub returns : goal.returns
returns c o first =
    let shapes = all_shapes c.args.shapes.now in
    let tags = c.args.tags.now in
    let so-far : TableSoFar shapes (all_tags tags) [] c.args.code.now.items c.loop-i.code.items o c.loop-i.place =
    subst (λ l. TableSoFar shapes (all_tags tags) l c.args.code.now.items c.loop-i.code.items o c.loop-i.place) (ap all_tags (drop_all c.loop-i.i tags (omega arith)))
    (c.loop-i.invariant o first) in
    sym (append-nil c.loop-i.code.items) ∙ so-far.whole
