use Rattle.std.proofs.Common.{◌+◌, [], ◌∷◌, ◌++◌, drop, sym, ap, ◌∙◌, subst, arith, append-nil, get_or}
use Rattle.std.proofs.lemmas.List.{drop_more, drop_all}
use Rattle.first_tables.specs.TablesOf.{items_of}
use Rattle.machine_routines.specs.EqualCode.{parts_code}
use Rattle.emit_equality.specs.Ways.{all_shapes, all_tags, most}
use Rattle.emit_equality.proofs.Pushed.{TagsSoFar, tags-next}
use Rattle.emit_equality.proofs.equality.push_tags.Goals as goal

pub loop-i-preserved : goal.loop-i-preserved
loop-i-preserved c o long places =
    let shapes = all_shapes c.args.shapes.now in
    let tags = c.args.tags.now in
    let i = c.loop-i.i in
    let this = c.index-tags-i.result in
    let so-far : TagsSoFar shapes (all_tags tags) (items_of (get_or tags i this) ∷ all_tags (drop (i + 1) tags)) c.args.code.now.items c.loop-i.code.items o =
    subst (λ l. TagsSoFar shapes (all_tags tags) l c.args.code.now.items c.loop-i.code.items o) (ap all_tags (drop_more tags i this c.loop-i-test.true))
    (c.loop-i.invariant o long places) in
    tags-next shapes (all_tags tags) (items_of (get_or tags i this)) (all_tags (drop (i + 1) tags)) c.args.code.now.items c.loop-i.code.items c.push_parts.new.code.items o
    so-far
    (c.in_ok-push_parts.ensures so-far.offset so-far.long places
    ∙ ap (λ l. c.loop-i.code.items ++ parts_code shapes 2 most so-far.offset 1 l) (c.deref.ensures.value ∙ ap items_of c.index-tags-i.is))

pub returns : goal.returns
returns c o long places =
    let shapes = all_shapes c.args.shapes.now in
    let tags = c.args.tags.now in
    let so-far : TagsSoFar shapes (all_tags tags) [] c.args.code.now.items c.loop-i.code.items o =
    subst (λ l. TagsSoFar shapes (all_tags tags) l c.args.code.now.items c.loop-i.code.items o) (ap all_tags (drop_all c.loop-i.i tags (omega arith)))
    (c.loop-i.invariant o long places) in
    sym (append-nil c.loop-i.code.items) ∙ so-far.whole
