use Rattle.ty_table.specs.of_ty_core.Types.{Typ}
use Rattle.ty_table.specs.of_ty_core.declared.mark.Mark.{Mark}
use Rattle.ty_table.specs.TypeAt.{type_at}
use Rattle.ty_solve.specs.Substitution.{Entry}
use Rattle.ty_solve.specs.SlotsOf.{seen, tasks_of, task_of, write_of}
use Rattle.ty_solve.specs.Task.{Task, Admit, Write}
use Rattle.ty_solve.specs.Compared.{Waits, Remembers}
use Rattle.ty_solve.specs.Held.{KeepsHeld}
use Rattle.ty_solve.proofs.Comparing.{remembers-marks}
use Rattle.std.proofs.Common.{◌∷◌, ◌++◌, ℕ, List, [], length, Option, None, Result, Ok, Err, IfOk, sym, ap, subst}
use Rattle.ty_solve.specs.declared.refused.UnifyRefused.{UnifyRefused}
use Rattle.std.specs.Option.{option_map}
use Rattle.std.proofs.Common.{ap}
use Rattle.ty_solve.specs.SlotsOf.{seen, task_of}
use Rattle.ty_solve.proofs.Arms.{refuses-task}
use Rattle.ty_solve.proofs.step.take.Goals as goal

pub returns-in-Equal-clause-cause : goal.returns-in-Equal-clause-cause
returns-in-Equal-clause-cause c = refuses-task (seen c.args.s.now.types c.args.s.now.slots.items) _ _ _ (ap (task_of c.args.s.now.types) c.in-Equal.is) c.equal.ensures.cause

pub returns-in-Admit-clause-cause : goal.returns-in-Admit-clause-cause
returns-in-Admit-clause-cause c = refuses-task (seen c.args.s.now.types c.args.s.now.slots.items) _ _ _ (ap (task_of c.args.s.now.types) c.in-Admit.is) c.admit.ensures.cause

pub equal-requires : goal.equal-requires
equal-requires c = record { remembered = subst (λ x. Remembers c.args.s.now.types (seen c.args.s.now.types c.args.s.now.slots.items) None c.args.compared.now.keys (tasks_of c.args.s.now.types c.args.tasks.now.items ++ task_of c.args.s.now.types x ∷ [])) c.in-Equal.is c.requires.remembered }

pub returns-in-Equal-clause-held : goal.returns-in-Equal-clause-held
returns-in-Equal-clause-held c = subst (λ x. IfOk c.equal.result (λ w. KeepsHeld (length c.args.s.now.types) c.args.tasks.now.items x c.equal.new.tasks.items w)) (sym c.in-Equal.is) c.equal.ensures.held

pub returns-in-Admit-clause-held : goal.returns-in-Admit-clause-held
returns-in-Admit-clause-held c = subst (λ x. IfOk c.admit.result (λ w. KeepsHeld (length c.args.s.now.types) c.args.tasks.now.items x c.admit.new.tasks.items w)) (sym c.in-Admit.is) c.admit.ensures.held

marks : {X : Type 0} (g : X → Option Write) (ts : List Typ) (s : ℕ → Entry) (pairs : List (ℕ × ℕ)) (old new : List Task) (k : Mark) (t : Typ) (r : Result X UnifyRefused) → Remembers ts s None pairs (old ++ Admit k t ∷ []) → IfOk r (λ _. (a b : Typ) → Waits old a b → Waits new a b) → IfOk r (λ x. Remembers ts s (g x) pairs new)
marks g ts s pairs old new k t (Ok x) h i = remembers-marks ts s (g x) pairs old new k t i h
marks g ts s pairs old new k t (Err e) h i = tt

pub returns-in-Admit-clause-remembers : goal.returns-in-Admit-clause-remembers
returns-in-Admit-clause-remembers c = marks (option_map (write_of c.args.s.now.types)) c.args.s.now.types (seen c.args.s.now.types c.args.s.now.slots.items) c.args.compared.now.keys (tasks_of c.args.s.now.types c.args.tasks.now.items) _ c.in-Admit.mark (type_at c.args.s.now.types c.in-Admit.t) c.admit.result (subst (λ x. Remembers c.args.s.now.types (seen c.args.s.now.types c.args.s.now.slots.items) None c.args.compared.now.keys (tasks_of c.args.s.now.types c.args.tasks.now.items ++ task_of c.args.s.now.types x ∷ [])) c.in-Admit.is c.requires.remembered) c.admit.ensures.stay
