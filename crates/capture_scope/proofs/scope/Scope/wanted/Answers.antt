use Rattle.std.proofs.Common.{sym, subst}
use Rattle.closure_convert.specs.Capture.{visible}
use Rattle.closure_convert.specs.Counts.{AreDistinct}
use Rattle.capture_scope.specs.Seen.{members_of}
use Rattle.capture_scope.proofs.Lists.{distinct}
use Rattle.capture_scope.proofs.Seen.{seen-visible}
use Rattle.capture_scope.proofs.Picking.{wanted-is, wanted-once}
use Rattle.capture_scope.proofs.scope.Scope.wanted.Goals as goal

pub returns-clause-kept : goal.returns-clause-kept
returns-clause-kept c =
    wanted-is (visible c.args.self.now) c.args.uses.now c.in_ok-places.places.items c.sort_unstable.new.self.items c.deref.result.now c.at_places.result c.in_ok-places.ensures c.sort_unstable.ensures.permutation c.sort_unstable.ensures.sorted c.deref.ensures.value c.at_places.ensures

pub returns-clause-once : goal.returns-clause-once
returns-clause-once c =
    wanted-once (visible c.args.self.now) c.args.uses.now c.at_places.result
    (subst AreDistinct (sym (seen-visible c.self.inside.seen.keys c.self.inside.captured (members_of c.self.inside.group.items) c.args.self.now c.self.invariant c.self.view_is)) (distinct c.self.inside.seen.keys c.len-seen.ensures.unique))
    (wanted-is (visible c.args.self.now) c.args.uses.now c.in_ok-places.places.items c.sort_unstable.new.self.items c.deref.result.now c.at_places.result c.in_ok-places.ensures c.sort_unstable.ensures.permutation c.sort_unstable.ensures.sorted c.deref.ensures.value c.at_places.ensures)
