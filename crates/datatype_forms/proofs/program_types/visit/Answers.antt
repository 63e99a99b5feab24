use Rattle.std.proofs.Common.{nat_eq, subst}
use Rattle.indexmap.specs.IndexMap.{get}
use Rattle.datatype_forms.specs.ProgramTypes.{Opened}
use Rattle.datatype_forms.proofs.Going.{going-skips, going-puts, going-opens}
use Rattle.datatype_forms.proofs.program_types.visit.Goals as goal

pub returns-then-is_known-clause-moves : goal.returns-then-is_known-clause-moves
returns-then-is_known-clause-moves c = λ f limit goal g. let h = c.is_known.ensures c.if-is_known.true in
    going-skips c.args.types.now f limit (get nat_eq c.args.known.now) c.args.program.now c.args.steps.now.items c.args.k h.0 goal h.1 g

pub returns-in-None-clause-moves : goal.returns-in-None-clause-moves
returns-in-None-clause-moves c = λ f limit goal g. going-opens c.args.types.now f limit (get nat_eq c.args.known.now) c.args.program.now c.args.steps.now.items c.open.new.steps.items c.args.k goal
    (subst (Opened c.args.types.now c.args.k c.args.steps.now.items c.open.new.steps.items) c.in-None.is c.in_ok-open.ensures) g

pub returns-in_ok-insert-in-Some-clause-moves : goal.returns-in_ok-insert-in-Some-clause-moves
returns-in_ok-insert-in-Some-clause-moves c = λ f limit goal g. going-puts c.args.types.now f limit (get nat_eq c.args.known.now) (get nat_eq c.insert.new.self) c.args.program.now c.variable.new.self c.args.steps.now.items c.open.new.steps.items c.args.k c.in-Some.v c.in_ok-n-in-Some.n goal
    (subst (Opened c.args.types.now c.args.k c.args.steps.now.items c.open.new.steps.items) c.in-Some.is c.in_ok-open.ensures) c.in_ok-n-in-Some.ensures.earlier_stay c.in_ok-n-in-Some.ensures.held c.in_ok-insert-in-Some.ensures.updates.0 g
