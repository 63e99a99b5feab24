use Rattle.std.proofs.Common.{◌+◌, [], ◌∷◌, ◌++◌, drop, sym, ap, ◌∙◌, subst, arith, append-nil, get_or}
use Rattle.std.proofs.lemmas.List.{drop_more, drop_all}
use Rattle.first_tables.specs.TablesOf.{shape_of}
use Rattle.machine_routines.specs.EqualCode.{shape_code}
use Rattle.emit_equality.specs.Ways.{all_shapes, most}
use Rattle.emit_equality.proofs.Pushed.{ShapesSoFar, shapes-next}
use Rattle.emit_equality.proofs.equality.push_equality.Goals as goal

pub loop-i-preserved : goal.loop-i-preserved
loop-i-preserved c two places =
    let all = c.args.shapes.now in
    let shapes = all_shapes all in
    let i = c.loop-i.i in
    let this = c.index-shapes-i.result in
    let so-far : ShapesSoFar shapes (shape_of (get_or all i this) ∷ all_shapes (drop (i + 1) all)) c.args.code.now.items c.loop-i.code.items =
    subst (λ l. ShapesSoFar shapes l c.args.code.now.items c.loop-i.code.items) (ap all_shapes (drop_more all i this c.loop-i-test.true))
    (c.loop-i.invariant two places) in
    shapes-next shapes (shape_of (get_or all i this)) (all_shapes (drop (i + 1) all)) c.args.code.now.items c.loop-i.code.items c.push_shape.new.code.items so-far
    (c.in_ok-push_shape.ensures so-far.offset so-far.long places
    ∙ ap (λ s. c.loop-i.code.items ++ shape_code shapes 2 most so-far.offset (shape_of s)) c.index-shapes-i.is)

pub returns : goal.returns
returns c two places =
    let all = c.args.shapes.now in
    let shapes = all_shapes all in
    let so-far : ShapesSoFar shapes [] c.args.code.now.items c.loop-i.code.items =
    subst (λ l. ShapesSoFar shapes l c.args.code.now.items c.loop-i.code.items) (ap all_shapes (drop_all c.loop-i.i all (omega arith)))
    (c.loop-i.invariant two places) in
    sym (append-nil c.loop-i.code.items) ∙ so-far.whole
