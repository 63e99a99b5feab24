use Rattle.std.proofs.Common.{length, subst, None, []}
use Rattle.ty_table.specs.TypeAt.{type_at}
use Rattle.ty_solve.specs.SlotsOf.{seen, entries, tasks_of, write_of}
use Rattle.ty_solve.specs.Finding.{IsWalked}
use Rattle.std.specs.Option.{option_map}
use Rattle.ty_solve.proofs.Slots.{reads-in}
use Rattle.ty_solve.specs.Held.{AreHeldTasks, IsHeldMove, KeepsHeld}
use Rattle.ty_solve.specs.declared.task.Todo.TheVariants as Todo
use Rattle.ty_solve.proofs.Turns.{ok-such}
use Rattle.ty_solve.proofs.Arms.{admit-ok, admit-err, admit-applied, admit-refused}
use Rattle.ty_solve.proofs.step.admit.Goals as goal

pub returns-in-Var-clause-steps : goal.returns-in-Var-clause-steps
returns-in-Var-clause-steps c = admit-ok (option_map (write_of c.args.s.now.types)) (length (entries c.args.s.now.types c.args.s.now.slots.items)) (seen c.args.s.now.types c.args.s.now.slots.items) c.args.s.now.acyclic.0 (tasks_of c.args.s.now.types c.args.tasks.now.items) (tasks_of c.args.s.now.types c.admit_variable.new.tasks.items) c.args.mark (type_at c.args.s.now.types c.args.t) (type_at c.args.s.now.types c.find-found.result) c.in-Var.x _ (reads-in c.args.s.now.types c.args.s.now.slots.items c.args.s.now.acyclic.0 _ _ c.find-found.ensures.reads) c.in-Var.ensures c.admit_variable.ensures.steps

pub returns-in-Var-clause-cause : goal.returns-in-Var-clause-cause
returns-in-Var-clause-cause c = admit-err (option_map (write_of c.args.s.now.types)) (length (entries c.args.s.now.types c.args.s.now.slots.items)) (seen c.args.s.now.types c.args.s.now.slots.items) c.args.s.now.acyclic.0 [] [] c.args.mark (type_at c.args.s.now.types c.args.t) (type_at c.args.s.now.types c.find-found.result) c.in-Var.x _ (reads-in c.args.s.now.types c.args.s.now.slots.items c.args.s.now.acyclic.0 _ _ c.find-found.ensures.reads) c.in-Var.ensures c.admit_variable.ensures.cause

pub returns-in-Var-clause-held : goal.returns-in-Var-clause-held
returns-in-Var-clause-held c =
    let n = length c.args.s.now.types in
    ok-such
    (λ w. AreHeldTasks n c.args.tasks.now.items → AreHeldTasks n c.admit_variable.new.tasks.items × IsHeldMove n w)
    (λ w. KeepsHeld n c.args.tasks.now.items (Todo.Admit c.args.mark c.args.t) c.admit_variable.new.tasks.items w)
    c.admit_variable.result
    (λ w h. λ o k. h o)
    c.admit_variable.ensures.held

pub admit_variable-requires : goal.admit_variable-requires
admit_variable-requires c = subst (IsWalked (seen c.args.s.now.types c.args.s.now.slots.items)) c.in-Var.ensures c.find-found.ensures.reads.walked

pub returns-in-Ok-clause-steps : goal.returns-in-Ok-clause-steps
returns-in-Ok-clause-steps c = admit-applied (option_map (write_of c.args.s.now.types)) (length (entries c.args.s.now.types c.args.s.now.slots.items)) (seen c.args.s.now.types c.args.s.now.slots.items) c.args.s.now.acyclic.0 (tasks_of c.args.s.now.types c.args.tasks.now.items) (tasks_of c.args.s.now.types c.admit_applied.new.tasks.items) c.args.mark (type_at c.args.s.now.types c.args.t) (type_at c.args.s.now.types c.find-found.result) _ None (reads-in c.args.s.now.types c.args.s.now.slots.items c.args.s.now.acyclic.0 _ _ c.find-found.ensures.reads) c.in-Apply.ensures.0 c.in-Ok.ensures.steps

pub returns-in-Err-clause-cause : goal.returns-in-Err-clause-cause
returns-in-Err-clause-cause c = admit-refused (option_map (write_of c.args.s.now.types)) (length (entries c.args.s.now.types c.args.s.now.slots.items)) (seen c.args.s.now.types c.args.s.now.slots.items) c.args.s.now.acyclic.0 [] [] c.args.mark (type_at c.args.s.now.types c.args.t) (type_at c.args.s.now.types c.find-found.result) _ c.in-Err.refused (reads-in c.args.s.now.types c.args.s.now.slots.items c.args.s.now.acyclic.0 _ _ c.find-found.ensures.reads) c.in-Apply.ensures.0 c.in-Err.ensures.cause
