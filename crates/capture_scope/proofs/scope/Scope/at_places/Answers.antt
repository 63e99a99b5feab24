use Rattle.std.proofs.Common.{get_or, slice_get, sym, ap, ◌∙◌, refl, arith}
use Rattle.std.proofs.lemmas.Option.{slice_get_within}
use Rattle.closure_convert.specs.Capture.{visible}
use Rattle.capture_scope.specs.Seen.{members_of}
use Rattle.capture_scope.proofs.Seen.{seen-visible}
use Rattle.capture_scope.proofs.Picking.{pick-skips, pick-past, pick-takes}
use Rattle.capture_scope.proofs.scope.Scope.at_places.Goals.{then-place-next+in-Some+in_ok-push, then-place-next+in_default, else-place-next}
use Rattle.capture_scope.proofs.scope.Scope.at_places.Goals as goal

pub overflow_add-next : goal.overflow_add-next
overflow_add-next c =
    let w = slice_get_within c.self.inside.seen.keys (get_or c.args.places.now c.loop-i.i 0) _ (sym c.in-Some.ensures.key) in
    let l = c.len-seen.ensures.len in
    let m = c.len-seen.ensures.small in
    omega (arith, w, l, m)

pub loop-i-preserved : goal.loop-i-preserved
loop-i-preserved c =
    let v = seen-visible c.self.inside.seen.keys c.self.inside.captured (members_of c.self.inside.group.items) c.args.self.now c.self.invariant c.self.view_is in
    elim c.if-place-next.branch [
      | then-place-next+in-Some+in_ok-push w ↦
          rw w.found-is (rw w.next-is (pick-takes (visible c.args.self.now) c.args.places.now c.loop-i.next c.loop-i.i (get_or c.args.places.now c.loop-i.i 0) _ 0 c.loop-i.found.items _ _ c.loop-i-test.true refl w.if-place-next.true
          (ap (λ l. slice_get l (get_or c.args.places.now c.loop-i.i 0)) v ∙ sym w.in-Some.ensures.key) w.in_ok-push.ensures.items c.loop-i.invariant))
      | then-place-next+in_default w ↦
          rw w.found-is (rw w.next-is (pick-past (visible c.args.self.now) c.args.places.now c.loop-i.next c.loop-i.i (get_or c.args.places.now c.loop-i.i 0) 0 c.loop-i.found.items _ c.loop-i-test.true refl
          (ap (λ l. slice_get l (get_or c.args.places.now c.loop-i.i 0)) v ∙ sym w.in_default.ensures.key) c.loop-i.invariant))
      | else-place-next w ↦
          rw w.found-is (rw w.next-is (pick-skips (visible c.args.self.now) c.args.places.now c.loop-i.next c.loop-i.i (get_or c.args.places.now c.loop-i.i 0) 0 c.loop-i.found.items _ c.loop-i-test.true refl w.if-place-next.false c.loop-i.invariant))
    ]
