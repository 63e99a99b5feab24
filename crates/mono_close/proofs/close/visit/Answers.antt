use Rattle.std.proofs.Common.{nat_eq, subst, sym, ap, ◌∙◌, Some}
use Rattle.indexmap.specs.IndexMap.{get}
use Rattle.mono_close.specs.Closing.{Opened}
use Rattle.mono_close.proofs.Going.{going-skips, going-puts, going-opens}
use Rattle.mono_close.proofs.close.visit.Goals as goal

pub returns-then-is_known-clause-moves : goal.returns-then-is_known-clause-moves
returns-then-is_known-clause-moves c = λ s goal e g. let h = c.is_known.ensures c.if-is_known.true in
    going-skips c.args.sources.now s (get nat_eq c.args.known.now) c.args.closed.now c.args.steps.now.items c.args.k h.0 goal h.1 g

pub returns-in-None-clause-moves : goal.returns-in-None-clause-moves
returns-in-None-clause-moves c = λ s goal e g. going-opens c.args.sources.now s (get nat_eq c.args.known.now) c.args.closed.now c.args.steps.now.items c.open.new.steps.items c.args.k goal
    (subst (Opened c.args.sources.now c.args.k c.args.steps.now.items c.open.new.steps.items) c.in-None.is c.in_ok-open.ensures) g

pub returns-in_ok-insert-in-Some-clause-moves : goal.returns-in_ok-insert-in-Some-clause-moves
returns-in_ok-insert-in-Some-clause-moves c = λ s goal e g. going-puts c.args.sources.now s (get nat_eq c.args.known.now) (get nat_eq c.insert.new.self) c.args.closed.now c.slot.new.closed c.args.steps.now.items c.open.new.steps.items c.args.k c.in-Some.v c.in_ok-n-in-Some.n goal
    (subst (Opened c.args.sources.now c.args.k c.args.steps.now.items c.open.new.steps.items) c.in-Some.is c.in_ok-open.ensures) c.in_ok-n-in-Some.ensures.earlier_stay (c.in_ok-n-in-Some.ensures.is ∙ ap Some (sym (e c.in-Some.v))) c.in_ok-insert-in-Some.ensures.updates.0 g
