use Rattle.ty_solve.proofs.Slots.{tasks-length}
use Rattle.ty_solve.proofs.Comparing.{remembers-ended}
use Rattle.ty_solve.specs.SlotsOf.{seen, entries, tasks_of, task_of, write_of}
use Rattle.ty_solve.specs.Tasks.{Steps}
use Rattle.ty_solve.specs.Compared.{Remembers}
use Rattle.ty_solve.specs.Held.{IsHeldMove}
use Rattle.ty_solve.proofs.Holding.{held-pop}
use Rattle.ty_solve.proofs.Slots.{tasks-push}
use Rattle.std.proofs.Common.{◌≡◌, length, None, subst, ◌∙◌, arith}
use Rattle.std.proofs.Common.{length, subst}
use Rattle.ty_solve.specs.SlotsOf.{seen, entries, tasks_of, task_of, write_of}
use Rattle.ty_solve.specs.Tasks.{Steps}
use Rattle.ty_solve.proofs.Slots.{tasks-push}
use Rattle.std.specs.Option.{option_map}
use Rattle.ty_solve.proofs.Coming.{goes-on, goes-down, comes-to, comes-refused}
use Rattle.ty_solve.proofs.step.next_write.Goals as goal

pub returns-in-Err-clause-cause : goal.returns-in-Err-clause-cause
returns-in-Err-clause-cause c = comes-refused (entries c.args.s.now.types c.args.s.now.slots.items) _ _ _ _ _ (tasks-push c.args.s.now.types _ _ _ c.in-Some.ensures.items) c.loop-task.invariant.going c.in-Err.ensures.cause

pub returns-in-Some-found-clause-comes : goal.returns-in-Some-found-clause-comes
returns-in-Some-found-clause-comes c = comes-to (entries c.args.s.now.types c.args.s.now.slots.items) c.args.s.now.acyclic.0 _ _ _ _ _ _ (tasks-push c.args.s.now.types _ _ _ c.in-Some.ensures.items) c.loop-task.invariant.going (subst (λ w. Steps (length (entries c.args.s.now.types c.args.s.now.slots.items)) (seen c.args.s.now.types c.args.s.now.slots.items) c.args.s.now.acyclic.0 (tasks_of c.args.s.now.types c.pop.new.self.items) (task_of c.args.s.now.types c.in-Some.task) (tasks_of c.args.s.now.types c.take.new.tasks.items) (option_map (write_of c.args.s.now.types) w)) c.in-Some-found.is c.in-Ok.ensures.steps)

pub loop-task-smaller : goal.loop-task-smaller
loop-task-smaller c = goes-down (length (entries c.args.s.now.types c.args.s.now.slots.items)) (seen c.args.s.now.types c.args.s.now.slots.items) _ _ _ _ _ (option_map (write_of c.args.s.now.types) c.in-Ok.found) (tasks-push c.args.s.now.types _ _ _ c.in-Some.ensures.items) c.in-Ok.ensures.steps

pub loop-task-preserved : goal.loop-task-preserved
loop-task-preserved c =
    let h = held-pop (length c.args.s.now.types) _ _ _ c.in-Some.ensures.items c.loop-task.invariant.held in
    record {
      going = goes-on (entries c.args.s.now.types c.args.s.now.slots.items) c.args.s.now.acyclic.0 _ _ _ _ _ (tasks-push c.args.s.now.types _ _ _ c.in-Some.ensures.items) c.loop-task.invariant.going (subst (λ w. Steps (length (entries c.args.s.now.types c.args.s.now.slots.items)) (seen c.args.s.now.types c.args.s.now.slots.items) c.args.s.now.acyclic.0 (tasks_of c.args.s.now.types c.pop.new.self.items) (task_of c.args.s.now.types c.in-Some.task) (tasks_of c.args.s.now.types c.take.new.tasks.items) (option_map (write_of c.args.s.now.types) w)) c.in-None.is c.in-Ok.ensures.steps);
      remembers = subst (λ w. Remembers c.args.s.now.types (seen c.args.s.now.types c.args.s.now.slots.items) (option_map (write_of c.args.s.now.types) w) c.take.new.compared.keys (tasks_of c.args.s.now.types c.take.new.tasks.items)) c.in-None.is c.in-Ok.ensures.remembers;
      held = (c.in-Ok.ensures.held h.0 h.1).0;
    }

pub take-requires : goal.take-requires
take-requires c = record { remembered = subst (Remembers c.args.s.now.types (seen c.args.s.now.types c.args.s.now.slots.items) None c.loop-task.compared.keys) (tasks-push c.args.s.now.types _ _ _ c.in-Some.ensures.items) c.loop-task.invariant.remembers }

pub returns-in-Some-found-clause-remembers : goal.returns-in-Some-found-clause-remembers
returns-in-Some-found-clause-remembers c = subst (λ w. Remembers c.args.s.now.types (seen c.args.s.now.types c.args.s.now.slots.items) (option_map (write_of c.args.s.now.types) w) c.take.new.compared.keys (tasks_of c.args.s.now.types c.take.new.tasks.items)) c.in-Some-found.is c.in-Ok.ensures.remembers

pub returns-in-Some-found-clause-held_tasks : goal.returns-in-Some-found-clause-held_tasks
returns-in-Some-found-clause-held_tasks c = let h = held-pop (length c.args.s.now.types) _ _ _ c.in-Some.ensures.items c.loop-task.invariant.held in (c.in-Ok.ensures.held h.0 h.1).0

pub returns-in-Some-found-clause-held_write : goal.returns-in-Some-found-clause-held_write
returns-in-Some-found-clause-held_write c = let h = held-pop (length c.args.s.now.types) _ _ _ c.in-Some.ensures.items c.loop-task.invariant.held in subst (IsHeldMove (length c.args.s.now.types)) c.in-Some-found.is (c.in-Ok.ensures.held h.0 h.1).1

pub returns-clause-remembers : goal.returns-clause-remembers
returns-clause-remembers c =
    let e : length c.loop-task.tasks.items ≡ 0 = omega (arith, c.loop-task.tasks.ok.0, c.in_default.ensures.cases.0) in
    remembers-ended c.args.s.now.types (seen c.args.s.now.types c.args.s.now.slots.items) c.loop-task.compared.keys (tasks_of c.args.s.now.types c.loop-task.tasks.items) _ (tasks-length c.args.s.now.types c.loop-task.tasks.items ∙ e) c.loop-task.invariant.remembers
