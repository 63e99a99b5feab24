use Rattle.ty_table.specs.TypeAt.{type_at}
use Rattle.ty_solve.specs.Substitution.{sub}
use Rattle.ty_solve.specs.SlotsOf.{seen, entries, tasks_of, write_of}
use Rattle.ty_solve.specs.Task.{Equal}
use Rattle.ty_solve.specs.Compared.{Settled}
use Rattle.ty_solve.specs.Held.{KeepsHeld}
use Rattle.ty_solve.proofs.Comparing.{remembers-dropped, remembers-along}
use Rattle.ty_solve.proofs.Slots.{reads-in}
use Rattle.std.proofs.Common.{◌<◌, ℕ, List, [], length, Option, None, Result, Ok, Err, IfOk, ap}
use Rattle.ty_solve.specs.declared.task.Todo.{Todo}
use Rattle.ty_solve.specs.declared.task.Move.{Move}
use Rattle.ty_solve.specs.declared.task.Todo.TheVariants as todo
use Rattle.ty_solve.specs.declared.refused.UnifyRefused.{UnifyRefused}
use Rattle.std.proofs.Common.{length, ap, []}
use Rattle.ty_table.specs.TypeAt.{type_at}
use Rattle.ty_solve.specs.Substitution.{sub}
use Rattle.ty_solve.specs.SlotsOf.{seen, entries, write_of}
use Rattle.ty_solve.specs.Task.{Equal}
use Rattle.std.specs.Option.{option_map}
use Rattle.ty_solve.proofs.Slots.{reads-in}
use Rattle.ty_solve.proofs.Arms.{equal-ok, equal-err}
use Rattle.ty_solve.proofs.StepArms.{steps-nothing}
use Rattle.ty_solve.proofs.step.equal.Goals as goal

pub returns-then-a-b-clause-steps : goal.returns-then-a-b-clause-steps
returns-then-a-b-clause-steps c = steps-nothing (length (entries c.args.s.now.types c.args.s.now.slots.items)) (seen c.args.s.now.types c.args.s.now.slots.items) c.args.s.now.acyclic.0 _ (Equal (type_at c.args.s.now.types c.args.a) (type_at c.args.s.now.types c.args.b)) (λ m f k. ap (λ x. sub f (type_at c.args.s.now.types x)) c.if-a-b.true)

pub returns-clause-steps : goal.returns-clause-steps
returns-clause-steps c = equal-ok (option_map (write_of c.args.s.now.types)) (length (entries c.args.s.now.types c.args.s.now.slots.items)) (seen c.args.s.now.types c.args.s.now.slots.items) c.args.s.now.acyclic.0 _ _ (type_at c.args.s.now.types c.args.a) (type_at c.args.s.now.types c.args.b) (type_at c.args.s.now.types c.find-left.result) (type_at c.args.s.now.types c.find-right.result) _ (reads-in c.args.s.now.types c.args.s.now.slots.items c.args.s.now.acyclic.0 _ _ c.find-left.ensures.reads) (reads-in c.args.s.now.types c.args.s.now.slots.items c.args.s.now.acyclic.0 _ _ c.find-right.ensures.reads) c.equal_found.ensures.steps

pub returns-clause-cause : goal.returns-clause-cause
returns-clause-cause c = equal-err (option_map (write_of c.args.s.now.types)) (length (entries c.args.s.now.types c.args.s.now.slots.items)) (seen c.args.s.now.types c.args.s.now.slots.items) c.args.s.now.acyclic.0 [] [] (type_at c.args.s.now.types c.args.a) (type_at c.args.s.now.types c.args.b) (type_at c.args.s.now.types c.find-left.result) (type_at c.args.s.now.types c.find-right.result) _ (reads-in c.args.s.now.types c.args.s.now.slots.items c.args.s.now.acyclic.0 _ _ c.find-left.ensures.reads) (reads-in c.args.s.now.types c.args.s.now.slots.items c.args.s.now.acyclic.0 _ _ c.find-right.ensures.reads) c.equal_found.ensures.cause

pub returns-then-a-b-clause-remembers : goal.returns-then-a-b-clause-remembers
returns-then-a-b-clause-remembers c = remembers-dropped c.args.s.now.types (seen c.args.s.now.types c.args.s.now.slots.items) None c.args.compared.now.keys (tasks_of c.args.s.now.types c.args.tasks.now.items) (type_at c.args.s.now.types c.args.a) (type_at c.args.s.now.types c.args.b) (λ f i j. Settled.equal (ap (λ x. sub f (type_at c.args.s.now.types x)) c.if-a-b.true)) c.requires.remembered

pub returns-then-a-b-clause-held : goal.returns-then-a-b-clause-held
returns-then-a-b-clause-held c = λ o h. (o, tt)

pub equal_found-requires-clause-remembered : goal.equal_found-requires-clause-remembered
equal_found-requires-clause-remembered c = remembers-along c.args.s.now.types (length c.args.s.now.slots.items) (seen c.args.s.now.types c.args.s.now.slots.items) c.args.s.now.acyclic.0 c.args.compared.now.keys (tasks_of c.args.s.now.types c.args.tasks.now.items) (type_at c.args.s.now.types c.args.a) (type_at c.args.s.now.types c.args.b) (type_at c.args.s.now.types c.find-left.result) (type_at c.args.s.now.types c.find-right.result) c.find-left.ensures.reads c.find-right.ensures.reads c.requires.remembered

keeps : (n : ℕ) (a b x y : ℕ) (old new : List Todo) (r : Result (Option Move) UnifyRefused) → (a < n → x < n) → (b < n → y < n) → IfOk r (λ w. KeepsHeld n old (todo.Equal x y) new w) → IfOk r (λ w. KeepsHeld n old (todo.Equal a b) new w)
keeps n a b x y old new (Ok w) p q h = λ o k. h o (p k.0, q k.1)
keeps n a b x y old new (Err e) p q h = h

pub returns-clause-held : goal.returns-clause-held
returns-clause-held c = keeps (length c.args.s.now.types) c.args.a c.args.b c.find-left.result c.find-right.result c.args.tasks.now.items _ _ c.find-left.ensures.held c.find-right.ensures.held c.equal_found.ensures.held
