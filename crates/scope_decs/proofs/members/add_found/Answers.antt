use Rattle.std.proofs.Common.{sym, ap, ◌∙◌}
use Rattle.vid_scope.specs.Entries.{entry_of}
use Rattle.scope_decs.proofs.Opening.{absent-next, found-next}
use Rattle.scope_decs.proofs.members.add_found.Goals.{in-Some+in_ok-push, in_default}
use Rattle.scope_decs.proofs.members.add_found.Goals as goal

pub loop-i-preserved : goal.loop-i-preserved
loop-i-preserved c =
    elim c.match-find.branch [
      | in-Some+in_ok-push w ↦
          found-next (entry_of c.args.scope.now) c.args.contents.now c.loop-i.i c.index-contents-i.result w.in-Some.entry c.args.values.now.items c.loop-i.values.items _ c.loop-i-test.true
          c.index-contents-i.is (sym w.in-Some.ensures) c.loop-i.invariant (ap (λ z. z.items) w.values-is ∙ w.in_ok-push.ensures.items)
      | in_default w ↦
          ap (λ z. z.items) w.values-is
          ∙ absent-next (entry_of c.args.scope.now) c.args.contents.now c.loop-i.i c.index-contents-i.result c.args.values.now.items c.loop-i.values.items c.loop-i-test.true
          c.index-contents-i.is (sym c.find.ensures ∙ w.in_default.is) c.loop-i.invariant
    ]
