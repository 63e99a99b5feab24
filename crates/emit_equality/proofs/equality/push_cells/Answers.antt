use Rattle.std.proofs.Common.{◌≡◌, ◌+◌, length, sym, ◌∙◌, subst, OnOk}
use Rattle.std.proofs.lemmas.List.{length-map}
use Rattle.first_tables.specs.TablesOf.{items_of}
use Rattle.emit_equality.specs.Ways.{all_shapes, all_tags}
use Rattle.emit_equality.proofs.Pushed.{cells-first, cells-long, cells-are}
use Rattle.emit_equality.proofs.equality.push_cells.Goals as goal

pub returns : goal.returns
returns c o long places =
    let shapes = all_shapes c.args.shapes.now in
    let tags = all_tags c.args.tags.now in
    let old = c.args.code.now.items in
    let c1 = c.put_two.new.code.items in
    let c2 = c.put_two-2.new.code.items in
    let c3 = c.put.new.code.items in
    let c4 = c.push_table.new.code.items in
    let c5 = c.put-2.new.code.items in
    let n : c.in_ok-count.count ≡ length tags = c.in_ok-count.ensures ∙ sym (length-map c.args.tags.now items_of) in
    let first = cells-first shapes tags old c1 c2 c3 c.ld.result c.ld-2.result c.equal.result c.brz.result o c.in_ok-count.count c.in_ok-put_two.ensures c.ld.ensures
    c.ld-2.ensures c.in_ok-put_two-2.ensures c.equal.ensures c.brz.ensures c.in_ok-put.ensures long n c.in_ok-here.field-0 c.in_ok-sum.field-0 c.in_ok-first.first
    c.in_ok-here.ensures c.in_ok-sum.ensures c.in_ok-first.ensures in
    let table = c.in_ok-push_table.ensures (o + 6 + length tags) first in
    let behind = cells-long shapes tags old c1 c2 c3 c.ld.result c.ld-2.result c.equal.result c.brz.result o c.in_ok-count.count c.in_ok-put_two.ensures c.ld.ensures
    c.ld-2.ensures c.in_ok-put_two-2.ensures c.equal.ensures c.brz.ensures c.in_ok-put.ensures long n c4 c5 c.jmp.result table c.in_ok-put-2.ensures c.jmp.ensures in
    subst (λ l. OnOk c.push_tags.result (c.push_tags.new.code.items ≡ l))
    (cells-are shapes tags old c1 c2 c3 c.ld.result c.ld-2.result c.equal.result c.brz.result o c.in_ok-count.count c.in_ok-put_two.ensures c.ld.ensures
    c.ld-2.ensures c.in_ok-put_two-2.ensures c.equal.ensures c.brz.ensures c.in_ok-put.ensures long n c4 c5 c.jmp.result table c.in_ok-put-2.ensures c.jmp.ensures)
    (c.push_tags.ensures (o + 6 + length tags) behind places)
