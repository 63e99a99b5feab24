use Rattle.ty_table.specs.of_ty_core.Types.{Typ}
use Rattle.ty_table.specs.TypeAt.{type_at}
use Rattle.ty_solve.specs.SlotsOf.{seen, entries, tasks_of, write_of}
use Rattle.ty_solve.specs.Compared.{Remembers}
use Rattle.ty_solve.specs.Held.{AreHeldTasks, IsHeldMove}
use Rattle.ty_solve.proofs.Comparing.{remembers-none, remembers-changed}
use Rattle.ty_solve.proofs.Holding.{held-push}
use Rattle.ty_solve.proofs.Slots.{entries-length, tasks-push}
use Rattle.std.proofs.Common.{◌≡◌, true, List, length, Some, None, refl, sym, ap, subst, ◌∙◌}
use Rattle.ty_solve.specs.declared.task.Todo.TheVariants as todo
use Rattle.std.proofs.Common.{◌∙◌, ◌≡◌, true, length, subst, sym, ap, refl, Some, None, List}
use Rattle.ty_table.specs.of_ty_core.Types.{Typ}
use Rattle.ty_table.specs.TypeAt.{type_at}
use Rattle.ty_solve.specs.Substitution.{is_below}
use Rattle.ty_solve.specs.SlotsOf.{seen, entries, tasks_of, write_of}
use Rattle.ty_solve.specs.Tasks.{Comes}
use Rattle.ty_solve.specs.Changes.{Changes, RefusesWrite}
use Rattle.std.specs.Option.{option_map}
use Rattle.ty_solve.proofs.Slots.{entries-length, tasks-push}
use Rattle.ty_solve.specs.Tasks.{RefusesTasks, Fit}
use Rattle.ty_solve.proofs.Turns.{comes-in}
use Rattle.ty_solve.proofs.Solving.{solving-begins, solving-next, solving-ends, solving-refused, change-refused, pushed}
use Rattle.ty_solve.proofs.solve.solve.Goals as goal

pub loop-refused-init : goal.loop-refused-init
loop-refused-init c = record {
  types = refl;
  same_length = refl;
  solving = solving-begins (entries c.args.s.now.types c.args.s.now.slots.items) (type_at c.args.s.now.types c.args.a) (type_at c.args.s.now.types c.args.b) (type_at c.args.s.now.types c.args.a) (type_at c.args.s.now.types c.args.b) _ refl refl (pushed _ _ _ (ap (tasks_of c.args.s.now.types) c.new-tasks.ensures.items) (tasks-push c.args.s.now.types _ _ _ c.in_ok-push.ensures.items)) (subst (λ n. is_below n (type_at c.args.s.now.types c.args.a) ≡ true) (sym (entries-length c.args.s.now.types c.args.s.now.slots.items)) c.requires.a_below) (subst (λ n. is_below n (type_at c.args.s.now.types c.args.b) ≡ true) (sym (entries-length c.args.s.now.types c.args.s.now.slots.items)) c.requires.b_below);
  remembers = remembers-none c.args.s.now.types (seen c.args.s.now.types c.args.s.now.slots.items) _ _ c.new-compared.ensures.empty;
  held = held-push (length c.args.s.now.types) c.new-tasks.result.items _ (todo.Equal c.args.a c.args.b) c.in_ok-push.ensures.items (subst (AreHeldTasks (length c.args.s.now.types)) (sym c.new-tasks.ensures.items) tt) (c.requires.a_held, c.requires.b_held);
  undone = refl;
}

pub returns-in-Err-clause-cause : goal.returns-in-Err-clause-cause
returns-in-Err-clause-cause c = solving-refused _ _ _ _ _ c.in-Err.refused c.loop-refused.invariant.solving (subst (λ (t : List Typ). RefusesTasks (seen t c.loop-refused.s.slots.items) (tasks_of t c.loop-refused.tasks.items) c.in-Err.refused) c.loop-refused.invariant.types c.in-Err.ensures.cause)

pub returns-in-None-clause-general : goal.returns-in-None-clause-general
returns-in-None-clause-general c = solving-ends _ _ _ _ _ _ c.loop-refused.invariant.solving (comes-in c.loop-refused.s.types c.args.s.now.types c.loop-refused.invariant.types c.loop-refused.s.slots.items c.loop-refused.tasks.items c.next_write.new.tasks.items None (subst (λ w. Comes (length (entries c.loop-refused.s.types c.loop-refused.s.slots.items)) (seen c.loop-refused.s.types c.loop-refused.s.slots.items) (tasks_of c.loop-refused.s.types c.loop-refused.tasks.items) (tasks_of c.loop-refused.s.types c.next_write.new.tasks.items) (option_map (write_of c.loop-refused.s.types) w)) c.in-None.is c.in-Ok.ensures.comes))

pub returns-in-None-clause-forced : goal.returns-in-None-clause-forced
returns-in-None-clause-forced c = c.loop-refused.invariant.solving.now_forced

pub returns-in-Err-change-clause-cause : goal.returns-in-Err-change-clause-cause
returns-in-Err-change-clause-cause c = change-refused _ _ _ _ _ _ (write_of c.args.s.now.types c.in-Some.write) c.in-Err-change.refused c.loop-refused.invariant.solving (comes-in c.loop-refused.s.types c.args.s.now.types c.loop-refused.invariant.types c.loop-refused.s.slots.items c.loop-refused.tasks.items c.next_write.new.tasks.items (Some c.in-Some.write) (subst (λ w. Comes (length (entries c.loop-refused.s.types c.loop-refused.s.slots.items)) (seen c.loop-refused.s.types c.loop-refused.s.slots.items) (tasks_of c.loop-refused.s.types c.loop-refused.tasks.items) (tasks_of c.loop-refused.s.types c.next_write.new.tasks.items) (option_map (write_of c.loop-refused.s.types) w)) c.in-Some.is c.in-Ok.ensures.comes)) (subst (λ (t : List Typ). RefusesWrite (seen t c.loop-refused.s.slots.items) (write_of t c.in-Some.write) c.in-Err-change.refused) c.loop-refused.invariant.types c.in-Err-change.ensures.cause)

pub loop-refused-preserved : goal.loop-refused-preserved
loop-refused-preserved c = record {
  types = c.in-Ok-change.ensures.types ∙ c.loop-refused.invariant.types;
  same_length = c.in-Ok-change.ensures.same_length ∙ c.loop-refused.invariant.same_length;
  solving = solving-next _ _ _ _ _ _ _ _ (write_of c.args.s.now.types c.in-Some.write) c.loop-refused.invariant.solving (comes-in c.loop-refused.s.types c.args.s.now.types c.loop-refused.invariant.types c.loop-refused.s.slots.items c.loop-refused.tasks.items c.next_write.new.tasks.items (Some c.in-Some.write) (subst (λ w. Comes (length (entries c.loop-refused.s.types c.loop-refused.s.slots.items)) (seen c.loop-refused.s.types c.loop-refused.s.slots.items) (tasks_of c.loop-refused.s.types c.loop-refused.tasks.items) (tasks_of c.loop-refused.s.types c.next_write.new.tasks.items) (option_map (write_of c.loop-refused.s.types) w)) c.in-Some.is c.in-Ok.ensures.comes)) (subst (λ (t : List Typ). Changes (entries t c.loop-refused.s.slots.items) (entries t c.change.new.s.slots.items) (tasks_of t c.next_write.new.tasks.items) (tasks_of t c.change.new.tasks.items) (write_of t c.in-Some.write)) c.loop-refused.invariant.types c.in-Ok-change.ensures.changes) (entries-length c.args.s.now.types c.change.new.s.slots.items ∙ c.in-Ok-change.ensures.same_length ∙ sym (entries-length c.args.s.now.types c.loop-refused.s.slots.items));
  remembers =
      let T = c.loop-refused.s.types in
      subst (λ (t : List Typ). Remembers t (seen t c.change.new.s.slots.items) None c.next_write.new.compared.keys (tasks_of t c.change.new.tasks.items)) (sym c.in-Ok-change.ensures.types) (remembers-changed T (entries T c.loop-refused.s.slots.items) (entries T c.change.new.s.slots.items) c.next_write.new.compared.keys (tasks_of T c.next_write.new.tasks.items) (tasks_of T c.change.new.tasks.items) (write_of T c.in-Some.write) c.in-Ok-change.ensures.changes (subst (λ w. Remembers T (seen T c.loop-refused.s.slots.items) (option_map (write_of T) w) c.next_write.new.compared.keys (tasks_of T c.next_write.new.tasks.items)) c.in-Some.is c.in-Ok.ensures.remembers));
  held = subst (λ (t : List Typ). AreHeldTasks (length t) c.change.new.tasks.items) (sym c.in-Ok-change.ensures.types) (c.in-Ok-change.ensures.held c.in-Ok.ensures.held_tasks);
  undone = c.in-Ok-change.ensures.undone ∙ c.loop-refused.invariant.undone;
}

pub change-requires-clause-held : goal.change-requires-clause-held
change-requires-clause-held c = subst (IsHeldMove (length c.loop-refused.s.types)) c.in-Some.is c.in-Ok.ensures.held_write

pub change-requires-clause-fit : goal.change-requires-clause-fit
change-requires-clause-fit c = subst (λ (t : List Typ). Fit (length (entries t c.loop-refused.s.slots.items)) (seen t c.loop-refused.s.slots.items) (Some (write_of t c.in-Some.write))) (sym c.loop-refused.invariant.types) ((comes-in c.loop-refused.s.types c.args.s.now.types c.loop-refused.invariant.types c.loop-refused.s.slots.items c.loop-refused.tasks.items c.next_write.new.tasks.items (Some c.in-Some.write) (subst (λ w. Comes (length (entries c.loop-refused.s.types c.loop-refused.s.slots.items)) (seen c.loop-refused.s.types c.loop-refused.s.slots.items) (tasks_of c.loop-refused.s.types c.loop-refused.tasks.items) (tasks_of c.loop-refused.s.types c.next_write.new.tasks.items) (option_map (write_of c.loop-refused.s.types) w)) c.in-Some.is c.in-Ok.ensures.comes)).fit c.loop-refused.invariant.solving.within)
