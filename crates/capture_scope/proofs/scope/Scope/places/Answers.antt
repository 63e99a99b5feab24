use Rattle.std.proofs.Common.{get_or, sym, ◌∙◌, refl}
use Rattle.closure_convert.specs.Capture.{visible}
use Rattle.capture_scope.specs.Seen.{members_of}
use Rattle.capture_scope.proofs.Lists.{distinct}
use Rattle.capture_scope.proofs.Seen.{seen-visible}
use Rattle.capture_scope.proofs.Picking.{placed-none, placed-some}
use Rattle.capture_scope.proofs.scope.Scope.places.Goals.{in-Some+in_ok-push, in_default}
use Rattle.capture_scope.proofs.scope.Scope.places.Goals as goal

pub loop-i-preserved : goal.loop-i-preserved
loop-i-preserved c =
    let v = seen-visible c.self.inside.seen.keys c.self.inside.captured (members_of c.self.inside.group.items) c.args.self.now c.self.invariant c.self.view_is in
    elim c.match-get_index_of.branch [
      | in-Some+in_ok-push w ↦
          rw w.places-is (placed-some (visible c.args.self.now) c.self.inside.seen.keys c.args.uses.now c.loop-i.i (get_or c.args.uses.now c.loop-i.i 0) 0 c.loop-i-test.true refl v (distinct c.self.inside.seen.keys c.len-seen.ensures.unique)
          c.loop-i.places.items _ w.in-Some.place (sym c.get_index_of.ensures.index ∙ w.in-Some.is) w.in_ok-push.ensures.items c.loop-i.invariant)
      | in_default w ↦
          rw w.places-is (placed-none (visible c.args.self.now) c.self.inside.seen.keys c.args.uses.now c.loop-i.i (get_or c.args.uses.now c.loop-i.i 0) 0 c.loop-i-test.true refl v
          c.loop-i.places.items (sym c.get_index_of.ensures.index ∙ w.in_default.is) c.loop-i.invariant)
    ]
