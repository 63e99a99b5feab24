use Rattle.std.proofs.Common.{length, List}
use Rattle.std.specs.Option.{option_map}
use Rattle.ty_table.specs.of_ty_core.Types.{Typ, var}
use Rattle.ty_table.specs.TypeAt.{AllBelow}
use Rattle.ty_solve.specs.SlotsOf.{entries, tasks_of, write_of}
use Rattle.ty_solve.specs.Said.{said}
use Rattle.ty_solve.specs.Task.{Task, Admit}
use Rattle.ty_solve.specs.Tasks.{Steps}
use Rattle.ty_solve.specs.Compared.{Waits}
use Rattle.ty_solve.specs.Held.{AreHeldTasks, IsHeldMove}
use Rattle.ty_solve.proofs.Turns.{ok-all, ok-such}
use Rattle.ty_solve.proofs.step.admit_variable.Goals as goal

pub remark-requires : goal.remark-requires
remark-requires c = c.in-None.ensures.is c.requires

pub returns-in-None-clause-steps : goal.returns-in-None-clause-steps
returns-in-None-clause-steps c =
    let s = c.args.s.now in
    ok-such
    (λ x. (l : List Task) → Steps (length (entries s.types s.slots.items)) (said s) s.acyclic.0 l (Admit c.args.mark (var c.args.x)) l (option_map (write_of s.types) x))
    (λ x. Steps (length (entries s.types s.slots.items)) (said s) s.acyclic.0 (tasks_of s.types c.args.tasks.now.items) (Admit c.args.mark (var c.args.x)) (tasks_of s.types c.args.tasks.now.items) (option_map (write_of s.types) x))
    c.remark.result
    (λ x h. h (tasks_of s.types c.args.tasks.now.items))
    c.remark.ensures.steps

pub returns-in-None-clause-stay : goal.returns-in-None-clause-stay
returns-in-None-clause-stay c = let l = tasks_of c.args.s.now.types c.args.tasks.now.items in ok-all ((a b : Typ) → Waits l a b → Waits l a b) c.remark.result (λ a b w. w)

pub returns-in-None-clause-held : goal.returns-in-None-clause-held
returns-in-None-clause-held c =
    let n = length c.args.s.now.types in
    ok-such (λ x. IsHeldMove n x) (λ x. AreHeldTasks n c.args.tasks.now.items → AreHeldTasks n c.args.tasks.now.items × IsHeldMove n x) c.remark.result (λ x h. λ o. (o, h)) c.remark.ensures.held

pub returns-in-Some-clause-held : goal.returns-in-Some-clause-held
returns-in-Some-clause-held c =
    let n = length c.args.s.now.types in
    ok-such
    (λ x. AllBelow n c.in-Some.row.now.types.items → AreHeldTasks n c.args.tasks.now.items → AreHeldTasks n c.remark_row.new.tasks.items × IsHeldMove n x)
    (λ x. AreHeldTasks n c.args.tasks.now.items → AreHeldTasks n c.remark_row.new.tasks.items × IsHeldMove n x)
    c.remark_row.result
    (λ x h. h c.in-Some.ensures.held)
    c.remark_row.ensures.held
