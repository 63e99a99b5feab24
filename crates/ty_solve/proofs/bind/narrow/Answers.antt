use Rattle.std.proofs.Common.{◌<◌, ℕ, List, length, refl, sym, ap, subst, ◌∙◌, arith}
use Rattle.ty_table.specs.TypeAt.{types_at}
use Rattle.ty_solve.specs.SlotsOf.{entries, tasks_of, row_in}
use Rattle.ty_solve.specs.Said.{said}
use Rattle.ty_solve.specs.Weight.{AreBelow}
use Rattle.ty_solve.specs.Parts.{AdmitParts, RefusesParts}
use Rattle.ty_solve.specs.Changes.{Changes}
use Rattle.ty_solve.specs.Task.{Further}
use Rattle.ty_solve.proofs.Turns.{some-of}
use Rattle.ty_solve.proofs.Slots.{entries-length, entries-set}
use Rattle.ty_solve.proofs.Narrowing.{may-narrow}
use Rattle.ty_solve.proofs.RowChanges.{narrow-changes, narrow-refused}
use Rattle.ty_solve.proofs.bind.narrow.Goals as goal

pub returns-in-Err-clause-cause : goal.returns-in-Err-clause-cause
returns-in-Err-clause-cause c =
    let s = c.args.s.now in
    narrow-refused (said s) c.args.v (row_in s.types c.in-Some.row) s.inhabited (some-of _ _ _ c.in-Some.row c.in-Some.is c.in_ok-own_row.ensures.own) c.in-Err.refused (subst (λ (l : List ℕ). RefusesParts (said s) (types_at s.types l) c.in-Err.refused) c.deref.ensures.value c.in-Err.ensures.cause)

pub write-requires-clause-may : goal.write-requires-clause-may
write-requires-clause-may c =
    let s = c.args.s.now in
    let lt : c.args.v < length s.slots.items = let e = entries-length s.types s.slots.items in omega (arith, c.requires.in_range) in
    may-narrow _ _ _ (row_in s.types c.in-Some.row) _ _ s.acyclic s.below s.inhabited lt (some-of _ _ _ c.in-Some.row c.in-Some.is c.in_ok-own_row.ensures.own) refl

pub returns-in_ok-write-in-Some-clause-changes : goal.returns-in_ok-write-in-Some-clause-changes
returns-in_ok-write-in-Some-clause-changes c =
    let s = c.args.s.now in
    let l = entries s.types s.slots.items in
    let e = sym (entries-length s.types s.slots.items) in
    subst
    (λ x. Changes l x (tasks_of s.types c.args.tasks.now.items) (tasks_of s.types c.admit_all.new.tasks.items) (Further c.args.v))
    (sym (ap (entries s.types) c.in_ok-write-in-Some.ensures.written ∙ entries-set s.types s.slots.items c.args.v _))
    (narrow-changes l s.acyclic.0 _ _ c.args.v (row_in s.types c.in-Some.row) s.inhabited (subst (λ n. AreBelow n (said s)) e s.below) c.requires (some-of _ _ _ c.in-Some.row c.in-Some.is c.in_ok-own_row.ensures.own) (subst (λ n. AdmitParts n (said s) s.acyclic.0 (tasks_of s.types c.args.tasks.now.items) (tasks_of s.types c.admit_all.new.tasks.items) (types_at s.types c.in-Some.row.types.items)) e (subst (λ (x : List ℕ). AdmitParts (length s.slots.items) (said s) s.acyclic.0 (tasks_of s.types c.args.tasks.now.items) (tasks_of s.types c.admit_all.new.tasks.items) (types_at s.types x)) c.deref.ensures.value c.in-Ok.ensures.parts)))
