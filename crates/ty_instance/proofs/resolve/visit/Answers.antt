use Rattle.std.proofs.Common.{◌++◌, ◌∷◌, [], nat_eq, ap, ◌∙◌}
use Rattle.std.proofs.lemmas.List.{append_assoc}
use Rattle.indexmap.specs.IndexMap.{get}
use Rattle.ty_solve.specs.SlotsOf.{seen}
use Rattle.ty_instance.specs.declared.step.Step.TheVariants.{Visit, Same}
use Rattle.ty_instance.proofs.Going.{going-skips, going-opens, going-follows}
use Rattle.ty_instance.proofs.Putting.{found-variable, found-parts, going-stays}
use Rattle.ty_instance.proofs.Ending.{ends-open}
use Rattle.ty_instance.proofs.resolve.visit.Goals as goal

pub returns-then-is_done : goal.returns-then-is_done
returns-then-is_done c = λ f w goal h ws g. going-skips c.args.s.now.types (seen c.args.s.now.types c.args.s.now.slots.items) f w (get nat_eq c.args.made.now) c.args.steps.now.items c.args.k goal (c.is_done.ensures c.if-is_done.true) g

pub returns-in-None : goal.returns-in-None
returns-in-None c = λ f w goal h ws g. going-opens c.args.s.now.types (seen c.args.s.now.types c.args.s.now.slots.items) f w (get nat_eq c.args.made.now) c.args.steps.now.items c.open.new.steps.items c.args.k goal (found-parts c.args.s.now.types c.args.k c.args.steps.now.items c.open.new.steps.items c.in_ok-open.field-0 c.in-None.is c.in_ok-open.ensures) g

pub returns-in_ok-push-in-Some-get-2 : goal.returns-in_ok-push-in-Some-get-2
returns-in_ok-push-in-Some-get-2 c = λ f w goal h ws g.
    let x = found-variable c.args.s.now.types c.args.k c.in-Some.v c.args.steps.now.items c.open.new.steps.items c.in_ok-open.field-0 c.in-Some.is c.in_ok-open.ensures in
    let e = c.in_ok-push-in-Some-get-2.ensures.items ∙ ap (λ l. l ++ Visit c.in-Some-get.u ∷ []) (c.in_ok-push-in-Some-get.ensures.items ∙ ap (λ l. l ++ Same c.args.k c.in-Some-get.u ∷ []) x.same) ∙ append_assoc c.args.steps.now.items (Same c.args.k c.in-Some-get.u ∷ []) (Visit c.in-Some-get.u ∷ []) in
    going-follows c.args.s.now.types (seen c.args.s.now.types c.args.s.now.slots.items) f w (get nat_eq c.args.made.now) c.args.steps.now.items _ c.args.k c.in-Some.v c.in-Some-get.u goal ws x.is c.in-Some-get.ensures.is c.in-Some-get.ensures.held e g

pub returns-in_ok-insert-in-None-get : goal.returns-in_ok-insert-in-None-get
returns-in_ok-insert-in-None-get c = λ f w goal h ws g.
    let x = found-variable c.args.s.now.types c.args.k c.in-Some.v c.args.steps.now.items c.open.new.steps.items c.in_ok-open.field-0 c.in-Some.is c.in_ok-open.ensures in
    going-stays c.args.s.now.types (seen c.args.s.now.types c.args.s.now.slots.items) f w (get nat_eq c.args.made.now) (get nat_eq c.insert.new.self) c.args.steps.now.items c.open.new.steps.items c.args.k c.in-Some.v goal c.in_ok-insert-in-None-get.ensures.updates.0 x (ends-open (seen c.args.s.now.types c.args.s.now.slots.items) f c.in-Some.v h c.in-None-get.ensures.is) g
