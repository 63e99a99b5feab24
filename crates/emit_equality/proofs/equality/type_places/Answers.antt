use Rattle.std.proofs.Common.{◌+◌, ◌∷◌, drop, sym, ap, ◌∙◌, subst, arith, get_or}
use Rattle.std.proofs.lemmas.List.{drop_more, drop_all}
use Rattle.first_tables.specs.TablesOf.{shape_of}
use Rattle.machine_routines.specs.EqualCode.{shape_size}
use Rattle.emit_equality.specs.Ways.{all_shapes}
use Rattle.emit_equality.proofs.Pushed.{PlacesSoFar, places-none, places-next, places-done}
use Rattle.emit_equality.proofs.equality.type_places.Goals as goal

pub loop-i-init : goal.loop-i-init
loop-i-init c = subst (λ l. PlacesSoFar (all_shapes c.args.shapes.now) (all_shapes c.args.shapes.now) l 10) (sym c.new-places.ensures.items) (places-none (all_shapes c.args.shapes.now))

pub loop-i-preserved : goal.loop-i-preserved
loop-i-preserved c =
    let all = c.args.shapes.now in
    let shapes = all_shapes all in
    let i = c.loop-i.i in
    let this = c.index-shapes-i.result in
    let so-far : PlacesSoFar shapes (shape_of (get_or all i this) ∷ all_shapes (drop (i + 1) all)) c.loop-i.places.items c.loop-i.place =
    subst (λ l. PlacesSoFar shapes l c.loop-i.places.items c.loop-i.place) (ap all_shapes (drop_more all i this c.loop-i-test.true)) c.loop-i.invariant in
    places-next shapes (shape_of (get_or all i this)) (all_shapes (drop (i + 1) all)) c.loop-i.places.items c.push.new.self.items c.loop-i.place c.in_ok-place.place
    c.in_ok-shape_size.field-0 so-far c.in_ok-push.ensures.items c.in_ok-place.ensures
    (c.in_ok-shape_size.ensures ∙ ap (λ s. shape_size shapes (shape_of s)) c.index-shapes-i.is)

pub returns : goal.returns
returns c =
    let all = c.args.shapes.now in
    let shapes = all_shapes all in
    places-done shapes c.loop-i.places.items c.loop-i.place
    (subst (λ l. PlacesSoFar shapes l c.loop-i.places.items c.loop-i.place) (ap all_shapes (drop_all c.loop-i.i all (omega arith))) c.loop-i.invariant)
