use Rattle.std.proofs.Common.{◌≡◌, true, length, List, sym, ap, subst, ◌∙◌}
use Rattle.ty_table.specs.of_ty_core.Types.{Typ}
use Rattle.ty_table.specs.TypeAt.{type_at, AllBelow}
use Rattle.ty_solve.specs.Substitution.{is_below}
use Rattle.ty_solve.specs.SlotsOf.{row_in, seen}
use Rattle.ty_solve.specs.Said.{said}
use Rattle.ty_solve.specs.Finding.{IsWalked}
use Rattle.ty_solve.specs.Held.{AreHeldTasks}
use Rattle.ty_solve.specs.Changes.{IsFitRow}
use Rattle.ty_solve.proofs.Slots.{entries-length}
use Rattle.ty_solve.proofs.Turns.{ok-then}
use Rattle.ty_solve.proofs.RowChanges.{row-fit}
use Rattle.ty_solve.proofs.RowResults.{bound-walked, row-ok, row-err, demands-in, refuses-in}
use Rattle.ty_solve.proofs.bind.bind_row.Goals as goal

pub demand-requires-clause-walked : goal.demand-requires-clause-walked
demand-requires-clause-walked c =
    let s = c.args.s.now in
    subst (λ (x : List Typ). IsWalked (seen x c.write.new.s.slots.items) (type_at x c.args.t)) (sym c.in_ok-write.ensures.types) (bound-walked s.types s.slots.items c.args.v c.args.t _ c.requires.binds c.in_ok-write.ensures.written)

pub demand-requires-clause-in_bounds : goal.demand-requires-clause-in_bounds
demand-requires-clause-in_bounds c =
    let s = c.args.s.now in
    subst (λ (x : List Typ). is_below (length c.write.new.s.slots.items) (type_at x c.args.t) ≡ true) (sym c.in_ok-write.ensures.types)
    (subst (λ n. is_below n (type_at s.types c.args.t) ≡ true) (entries-length s.types s.slots.items ∙ sym c.in_ok-write.ensures.same_length) c.requires.binds.in_bounds)

pub demand-requires-clause-row_fits : goal.demand-requires-clause-row_fits
demand-requires-clause-row_fits c =
    let s = c.args.s.now in
    subst (λ (x : List Typ). IsFitRow (length c.write.new.s.slots.items) (row_in x c.args.row.now)) (sym c.in_ok-write.ensures.types)
    (subst (λ n. IsFitRow n (row_in s.types c.args.row.now)) (sym c.in_ok-write.ensures.same_length) (row-fit (length s.slots.items) (said s) c.args.v (row_in s.types c.args.row.now) s.below s.inhabited c.requires.is_row))

pub demand-requires-clause-row_held : goal.demand-requires-clause-row_held
demand-requires-clause-row_held c = subst (λ (x : List Typ). AllBelow (length x) c.args.row.now.types.items) (sym c.in_ok-write.ensures.types) c.requires.row_held

pub returns-clause-changes : goal.returns-clause-changes
returns-clause-changes c =
    let s = c.args.s.now in
    row-ok s.types s.slots.items c.args.v c.args.t _ c.requires.binds c.in_ok-write.ensures.written _ _ _ (row_in s.types c.args.row.now) c.demand.result c.requires.is_row (demands-in _ _ c.in_ok-write.ensures.types _ _ _ _ c.args.row.now c.args.t c.demand.result c.demand.ensures.demands)

pub returns-clause-held : goal.returns-clause-held
returns-clause-held c =
    let n = length c.write.new.s.types in
    let e = ap (λ (x : List Typ). length x) c.in_ok-write.ensures.types in
    ok-then (AreHeldTasks n c.args.tasks.now.items → AreHeldTasks n c.demand.new.tasks.items) (AreHeldTasks (length c.args.s.now.types) c.args.tasks.now.items → AreHeldTasks (length c.args.s.now.types) c.demand.new.tasks.items) c.demand.result (λ h. subst (λ m. AreHeldTasks m c.args.tasks.now.items → AreHeldTasks m c.demand.new.tasks.items) e h) c.demand.ensures.held

pub returns-clause-cause : goal.returns-clause-cause
returns-clause-cause c =
    let s = c.args.s.now in
    row-err s.types s.slots.items c.args.v c.args.t _ c.requires.binds c.in_ok-write.ensures.written (row_in s.types c.args.row.now) c.demand.result c.requires.is_row (refuses-in _ _ c.in_ok-write.ensures.types _ c.args.row.now c.args.t c.demand.result c.demand.ensures.cause)
