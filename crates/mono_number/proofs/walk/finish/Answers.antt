use Rattle.std.proofs.Common.{nat_eq, refl}
use Rattle.indexmap.specs.IndexMap.{get}
use Rattle.mono_number.specs.Moves.{enters, enters_bodies, lets}
use Rattle.mono_number.specs.declared.walk.Around.TheVariants as around
use Rattle.mono_number.proofs.Given.{if-ok}
use Rattle.mono_number.proofs.Moving.{finish-alone, finish-with}
use Rattle.mono_number.proofs.walk.finish.Goals as goal

pub returns-in-Attempt : goal.returns-in-Attempt
returns-in-Attempt c = finish-alone c.args.limit (get nat_eq c.args.known.now) c.in-Some.part around.Attempt c.args.walk.now c.leave.new.walk c.in-Attempt.is c.in-Some.ensures.left (λ types index strings H b g fs go. refl)

pub returns-in-Arms : goal.returns-in-Arms
returns-in-Arms c =
    if-ok _ _ c.enter.result
    (λ u h. finish-with c.args.limit (get nat_eq c.args.known.now) c.in-Some.part around.Arms (enters around.Arms) c.args.walk.now c.leave.new.walk c.enter.new.walk c.in-Arms.is c.in-Some.ensures.left (h (get nat_eq c.args.known.now)) (λ types index strings H b g fs go. refl)) c.enter.ensures

pub returns-in-Let : goal.returns-in-Let
returns-in-Let c =
    if-ok _ _ c.finish_let.result
    (λ u h. finish-with c.args.limit (get nat_eq c.args.known.now) c.in-Some.part (around.Let c.in-Let.copy c.in-Let.ty) (lets c.in-Let.copy c.in-Let.ty) c.args.walk.now c.leave.new.walk c.finish_let.new.walk c.in-Let.is c.in-Some.ensures.left h (λ types index strings H b g fs go. refl)) c.finish_let.ensures

pub returns-in-Handled : goal.returns-in-Handled
returns-in-Handled c = finish-alone c.args.limit (get nat_eq c.args.known.now) c.in-Some.part around.Handled c.args.walk.now c.leave.new.walk c.in-Handled.is c.in-Some.ensures.left (λ types index strings H b g fs go. refl)

pub returns-in-Bodies : goal.returns-in-Bodies
returns-in-Bodies c =
    if-ok _ _ c.enter_bodies.result
    (λ u h. finish-with c.args.limit (get nat_eq c.args.known.now) c.in-Some.part (around.Bodies c.in-Bodies.left) (enters_bodies c.in-Bodies.left) c.args.walk.now c.leave.new.walk c.enter_bodies.new.walk c.in-Bodies.is c.in-Some.ensures.left (h (get nat_eq c.args.known.now)) (λ types index strings H b g fs go. refl))
    c.enter_bodies.ensures
