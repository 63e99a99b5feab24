use Rattle.std.proofs.Common.{◌≡◌, ap, ◌++◌, ◌∙◌, refl}
use Rattle.ty_solve.specs.Said.{said}
use Rattle.ty_solve.specs.Walk.{LooksInRow}
use Rattle.ty_solve.proofs.Turns.{ok-then}
use Rattle.ty_solve.proofs.walk.look_in_row.Goals as goal

pub returns-in-None : goal.returns-in-None
returns-in-None c = LooksInRow.ends (c.in-None.ensures.is c.requires) refl

pub returns-in-Some : goal.returns-in-Some
returns-in-Some c =
    let old = c.args.pending.now.items in
    let new = c.add_all.new.pending.items in
    ok-then (new ≡ old ++ c.deref.result.now) (LooksInRow c.args.s.now.types (said c.args.s.now) c.args.x old new) c.add_all.result (λ h. LooksInRow.fields c.in-Some.row.now.equality c.in-Some.row.now.labels.items c.in-Some.row.now.types.items c.in-Some.ensures.is (h ∙ ap (λ l. old ++ l) c.deref.ensures.value)) c.add_all.ensures
