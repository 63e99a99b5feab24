use Rattle.ty_solve.specs.SlotsOf.{seen, entries, tasks_of, write_of}
use Rattle.ty_solve.specs.Task.{Remark}
use Rattle.ty_solve.specs.Held.{AreHeldTasks, IsHeldMove}
use Rattle.std.proofs.Common.{length, Some, IfOk, IfErr, sym, subst}
use Rattle.ty_solve.proofs.Turns.{ok-all}
use Rattle.std.proofs.Common.{subst, sym, IfOk, IfErr}
use Rattle.ty_solve.specs.SlotsOf.{seen, entries, tasks_of, write_of}
use Rattle.ty_solve.specs.Task.{Remark}
use Rattle.ty_solve.specs.Changes.{Changes, RefusesWrite}
use Rattle.ty_solve.proofs.Turns.{ok-at}
use Rattle.ty_solve.proofs.solve.change.Goals as goal

pub returns-in-Bind-clause-cause : goal.returns-in-Bind-clause-cause
returns-in-Bind-clause-cause c = subst (λ x. IfErr c.bind_variable.result (RefusesWrite (seen c.args.s.now.types c.args.s.now.slots.items) (write_of c.args.s.now.types x))) (sym c.in-Bind.is) c.bind_variable.ensures.cause

pub returns-in-Remark-clause-changes : goal.returns-in-Remark-clause-changes
returns-in-Remark-clause-changes c = subst (λ x. IfOk c.lower_mark.result (λ _. Changes (entries c.args.s.now.types c.args.s.now.slots.items) (entries c.args.s.now.types c.lower_mark.new.s.slots.items) (tasks_of c.args.s.now.types c.args.tasks.now.items) (tasks_of c.args.s.now.types c.args.tasks.now.items) (write_of c.args.s.now.types x))) (sym c.in-Remark.is) (ok-at (λ l. Changes (entries c.args.s.now.types c.args.s.now.slots.items) (entries c.args.s.now.types c.lower_mark.new.s.slots.items) l l (Remark c.in-Remark.v c.in-Remark.mark)) c.lower_mark.result _ c.lower_mark.ensures.changes)

pub bind_variable-requires-clause-held : goal.bind_variable-requires-clause-held
bind_variable-requires-clause-held c = subst (λ x. IsHeldMove (length c.args.s.now.types) (Some x)) c.in-Bind.is c.requires.held

pub returns-in-Remark-clause-held : goal.returns-in-Remark-clause-held
returns-in-Remark-clause-held c = ok-all (AreHeldTasks (length c.args.s.now.types) c.args.tasks.now.items → AreHeldTasks (length c.args.s.now.types) c.args.tasks.now.items) c.lower_mark.result (λ h. h)

pub returns-in-Further-clause-changes : goal.returns-in-Further-clause-changes
returns-in-Further-clause-changes c = subst (λ x. IfOk c.narrow.result (λ _. Changes (entries c.args.s.now.types c.args.s.now.slots.items) (entries c.args.s.now.types c.narrow.new.s.slots.items) (tasks_of c.args.s.now.types c.args.tasks.now.items) (tasks_of c.args.s.now.types c.narrow.new.tasks.items) (write_of c.args.s.now.types x))) (sym c.in-Further.is) c.narrow.ensures.changes

pub returns-in-Further-clause-cause : goal.returns-in-Further-clause-cause
returns-in-Further-clause-cause c = subst (λ x. IfErr c.narrow.result (RefusesWrite (seen c.args.s.now.types c.args.s.now.slots.items) (write_of c.args.s.now.types x))) (sym c.in-Further.is) c.narrow.ensures.cause
