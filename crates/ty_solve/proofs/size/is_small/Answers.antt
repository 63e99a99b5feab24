use Rattle.std.proofs.Common.{◌+◌, ◌-◌, nat_eq, refl, arith}
use Rattle.indexmap.specs.IndexMap.{get}
use Rattle.ty_solve.specs.SlotsOf.{seen}
use Rattle.ty_solve.proofs.Counting.{sizing-visits, sizing-over, sizing-notes, noted-earlier, done-lighter, visit-lighter}
use Rattle.ty_solve.proofs.size.is_small.Goals as goal

pub overflow_sub-count : goal.overflow_sub-count
overflow_sub-count c = noted-earlier c.args.s.now.types (seen c.args.s.now.types c.args.s.now.slots.items) c.args.t (get nat_eq c.loop-task.sizes) c.loop-task.tasks.items c.pop.new.self.items c.in-Some.task c.in-Done.k c.in-Done.before c.loop-task.count c.in-Some.ensures.items c.in-Done.is c.loop-task.invariant

pub loop-task-smaller-in_ok-insert-in-Done : goal.loop-task-smaller-in_ok-insert-in-Done
loop-task-smaller-in_ok-insert-in-Done c = done-lighter c.args.s.now.acyclic.0 c.args.s.now.types c.loop-task.tasks.items c.pop.new.self.items c.in-Some.task c.in-Done.k c.in-Done.before c.in-Some.ensures.items c.in-Done.is

pub loop-task-preserved-in_ok-insert-in-Done : goal.loop-task-preserved-in_ok-insert-in-Done
loop-task-preserved-in_ok-insert-in-Done c = sizing-notes c.args.s.now.types (seen c.args.s.now.types c.args.s.now.slots.items) c.args.t (get nat_eq c.loop-task.sizes) c.loop-task.tasks.items c.pop.new.self.items c.in-Some.task c.in-Done.k c.in-Done.before c.loop-task.count c.in-Some.ensures.items c.in-Done.is c.loop-task.invariant (get nat_eq c.insert.new.self) (c.loop-task.count - c.in-Done.before) refl c.in_ok-insert-in-Done.ensures.updates.0

pub returns-then-more-count : goal.returns-then-more-count
returns-then-more-count c = λ f h. let lt = sizing-over c.args.s.now.types (seen c.args.s.now.types c.args.s.now.slots.items) c.args.s.now.acyclic.0 c.args.t (get nat_eq c.loop-task.sizes) c.loop-task.tasks.items c.pop.new.self.items _ c.in-Some.task c.in-Visit.k c.in_ok-more-in-Visit.more c.loop-task.count c.in-Some.ensures.items c.in-Visit.is c.in_ok-more-in-Visit.ensures (omega arith) (omega arith) c.loop-task.invariant f h in (λ i. cc, λ i. absurd (omega arith))

pub loop-task-smaller : goal.loop-task-smaller
loop-task-smaller c = visit-lighter c.args.s.now.types (seen c.args.s.now.types c.args.s.now.slots.items) c.args.s.now.acyclic.0 c.loop-task.tasks.items c.pop.new.self.items _ c.in-Some.task c.in-Visit.k c.in_ok-more-in-Visit.more c.loop-task.count c.in-Some.ensures.items c.in-Visit.is c.in_ok-more-in-Visit.ensures

pub loop-task-preserved : goal.loop-task-preserved
loop-task-preserved c = sizing-visits c.args.s.now.types (seen c.args.s.now.types c.args.s.now.slots.items) c.args.s.now.acyclic.0 c.args.t (get nat_eq c.loop-task.sizes) c.loop-task.tasks.items c.pop.new.self.items _ c.in-Some.task c.in-Visit.k c.in_ok-more-in-Visit.more c.loop-task.count (c.loop-task.count + c.in_ok-more-in-Visit.more) c.in-Some.ensures.items c.in-Visit.is c.in_ok-more-in-Visit.ensures (omega arith) refl c.loop-task.invariant
