use Rattle.std.proofs.Common.{nat_eq}
use Rattle.indexmap.specs.IndexMap.{get}
use Rattle.ty_core.specs.TypesOf.{head_of}
use Rattle.monomorphise.specs.Simple.{nth_part}
use Rattle.mono_place.proofs.Placed.{node-same}
use Rattle.mono_place.proofs.Going.{going-skips, going-puts, going-opens, opens-pushed}
use Rattle.mono_place.proofs.walk.visit.Goals as goal

pub returns-then-is_known : goal.returns-then-is_known
returns-then-is_known c = λ first types goal g. let h = c.is_known.ensures c.if-is_known.true in
    going-skips c.args.sources.now (nth_part c.args.slots.now) (get nat_eq c.args.known.now) first types c.args.steps.now.items c.args.k h.0 goal h.1 g

pub returns-in_ok-insert-in-Var : goal.returns-in_ok-insert-in-Var
returns-in_ok-insert-in-Var c = λ first types goal g.
    going-puts c.args.sources.now (nth_part c.args.slots.now) (get nat_eq c.args.known.now) (get nat_eq c.insert.new.self) first types c.args.steps.now.items c.args.k c.in-Var.v c.slot.result goal c.in-Var.ensures c.slot.ensures c.in_ok-insert-in-Var.ensures.updates.0 g

pub returns-in_ok-visit_all-in-Apply : goal.returns-in_ok-visit_all-in-Apply
returns-in_ok-visit_all-in-Apply c = λ first types goal g.
    going-opens node-same c.args.sources.now (nth_part c.args.slots.now) (get nat_eq c.args.known.now) first types c.args.steps.now.items c.visit_all.new.steps.items c.args.k goal
    (opens-pushed c.args.sources.now c.args.k (head_of c.in-Apply.field-0.now) c.in-Apply.parts.now c.args.steps.now.items c.push.new.self.items c.visit_all.new.steps.items c.in-Apply.ensures c.in_ok-push-in-Apply.ensures.items c.in_ok-visit_all-in-Apply.ensures) g
