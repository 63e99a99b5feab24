use Rattle.std.proofs.Common.{◌≡◌, ap, ◌++◌, ◌∙◌, refl}
use Rattle.ty_solve.specs.Said.{said}
use Rattle.ty_solve.specs.Walk.{LooksInRow}
use Rattle.ty_solve.proofs.Turns.{ok-then}
use Rattle.open_variables.proofs.done.look_in_row.Goals as goal

pub returns-in-Some : goal.returns-in-Some
returns-in-Some c =
    let s = c.args.solver.now.subst in
    let old = c.args.pending.now.items in
    let new = c.add_all.new.pending.items in
    ok-then (new ≡ old ++ c.deref.result.now) (LooksInRow s.types (said s) c.args.v old new) c.add_all.result
    (λ h. LooksInRow.fields c.in-Some.row.now.equality c.in-Some.row.now.labels.items c.in-Some.row.now.types.items c.in-Some.ensures.is
    (h ∙ ap (λ l. old ++ l) c.deref.ensures.value)) c.add_all.ensures

pub returns-in-None : goal.returns-in-None
returns-in-None c = LooksInRow.ends (c.in-None.ensures.is c.requires) refl
