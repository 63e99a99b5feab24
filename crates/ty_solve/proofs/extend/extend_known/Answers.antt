use Rattle.std.proofs.Common.{List, ℕ, sym, ap, ◌∙◌}
use Rattle.ty_table.specs.TypeAt.{types_at}
use Rattle.ty_solve.specs.Substitution.{subs, are_in}
use Rattle.ty_solve.specs.SlotsOf.{row_in}
use Rattle.ty_solve.proofs.RowResults.{extended, may, circular}
use Rattle.ty_solve.proofs.extend.extend_known.Goals as goal

pub returns-then-branch-clause-cause : goal.returns-then-branch-clause-cause
returns-then-branch-clause-cause c =
    let s = c.args.s.now in
    circular s.types s.slots.items _ _ c.args.y (row_in s.types c.args.known) (row_in s.types c.args.row.now) c.in_ok-joined.joined c.requires.in_range c.requires.open c.requires.known_is c.requires.row_fits c.in_ok-joined.ensures.joins s.acyclic s.inhabited (λ f h. sym c.if-branch.true ∙ c.in_ok-occurs_in.ensures f h ∙ ap (λ (l : List ℕ). are_in c.args.y (subs f (types_at s.types l))) c.deref.ensures.value)

pub write-requires-clause-held : goal.write-requires-clause-held
write-requires-clause-held c = c.in_ok-joined.ensures.held c.requires.known_held c.requires.row_held

pub write-requires-clause-may : goal.write-requires-clause-may
write-requires-clause-may c =
    let s = c.args.s.now in
    may s.types s.slots.items _ _ c.args.y (row_in s.types c.args.known) (row_in s.types c.args.row.now) c.in_ok-joined.joined c.requires.in_range c.requires.open c.requires.known_is c.requires.row_fits c.in_ok-joined.ensures.joins (λ f h. sym c.if-branch.false ∙ c.in_ok-occurs_in.ensures f h ∙ ap (λ (l : List ℕ). are_in c.args.y (subs f (types_at s.types l))) c.deref.ensures.value)

pub returns-clause-demands : goal.returns-clause-demands
returns-clause-demands c =
    let s = c.args.s.now in
    extended s.types s.slots.items _ _ c.args.y (row_in s.types c.args.known) (row_in s.types c.args.row.now) c.in_ok-joined.joined c.requires.in_range c.requires.open c.requires.known_is c.requires.row_fits c.in_ok-joined.ensures.joins _ c.in_ok-write.ensures.written

pub returns-clause-held : goal.returns-clause-held
returns-clause-held c = λ h. c.in_ok-joined.ensures.held_tasks c.requires.known_held c.requires.row_held h
