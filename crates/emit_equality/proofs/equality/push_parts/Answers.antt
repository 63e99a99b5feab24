use Rattle.std.proofs.Common.{◌≡◌, ◌+◌, ◌-◌, length, [], ◌∷◌, ◌++◌, drop, ap, ◌∙◌, subst, OnOk, arith, get_or}
use Rattle.std.proofs.lemmas.List.{drop_more, drop_all, take_all, length-drop}
use Rattle.emit_equality.specs.Ways.{all_shapes, most}
use Rattle.machine_routines.specs.EqualCode.{way_at, way_code}
use Rattle.emit_equality.proofs.Pushed.{PartsSoFar, parts-next}
use Rattle.emit_equality.proofs.equality.push_parts.Goals as goal

pub loop-i-preserved : goal.loop-i-preserved
loop-i-preserved c o long places =
    let shapes = all_shapes c.args.shapes.now in
    let parts = c.args.parts.now in
    let i = c.loop-i.i in
    let so-far : PartsSoFar shapes parts (get_or parts i 0 ∷ drop (i + 1) parts) c.args.code.now.items c.loop-i.code.items o c.loop-i.number =
    subst (λ l. PartsSoFar shapes parts l c.args.code.now.items c.loop-i.code.items o c.loop-i.number) (drop_more parts i 0 c.loop-i-test.true)
    (c.loop-i.invariant o long places) in
    parts-next shapes parts (get_or parts i 0) (drop (i + 1) parts) c.args.code.now.items c.loop-i.code.items c.push_part.new.code.items o c.loop-i.number
    c.in_ok-number.number so-far
    (c.in_ok-push_part.ensures so-far.offset so-far.long places
    ∙ ap (λ r. c.loop-i.code.items ++ way_code shapes 2 most (way_at shapes (get_or parts i 0) r) so-far.offset c.loop-i.number (get_or parts i 0))
    (take_all (length parts - (i + 1)) (drop (i + 1) parts) (omega (arith, length-drop (i + 1) parts))))
    c.in_ok-number.ensures

pub returns : goal.returns
returns c o long places =
    let shapes = all_shapes c.args.shapes.now in
    let parts = c.args.parts.now in
    let so-far : PartsSoFar shapes parts [] c.args.code.now.items c.loop-i.code.items o c.loop-i.number =
    subst (λ l. PartsSoFar shapes parts l c.args.code.now.items c.loop-i.code.items o c.loop-i.number) (drop_all c.loop-i.i parts (omega arith))
    (c.loop-i.invariant o long places) in
    subst (λ l. OnOk c.put.result (c.put.new.code.items ≡ l)) (ap (λ j. c.loop-i.code.items ++ j ∷ []) c.jmp.ensures ∙ so-far.whole) c.put.ensures
