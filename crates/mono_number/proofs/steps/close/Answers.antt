use Rattle.std.proofs.Common.{nat_eq, refl, arith}
use Rattle.indexmap.specs.IndexMap.{get}
use Rattle.mono_number.specs.declared.walk.Around.TheVariants as around
use Rattle.mono_number.specs.Moves.{ends, lets}
use Rattle.mono_number.proofs.Given.{if-ok}
use Rattle.mono_number.proofs.Heads.{close-with, close-heads}
use Rattle.mono_number.proofs.steps.close.Goals as goal

pub returns-in-Arms : goal.returns-in-Arms
returns-in-Arms c =
    if-ok _ _ c.finish.result
    (λ u h. close-with c.args.limit (get nat_eq c.args.known.now) c.in-Some.part around.Arms ends c.args.walk.now c.leave.new.walk c.finish.new.walk c.in-Arms.is c.in-Some.ensures.left h (λ types index strings H b g h fs go. refl)) c.finish.ensures

pub returns-in-Let : goal.returns-in-Let
returns-in-Let c =
    if-ok _ _ c.finish_let.result
    (λ u h. close-with c.args.limit (get nat_eq c.args.known.now) c.in-Some.part (around.Let c.in-Let.copy c.in-Let.ty) (lets c.in-Let.copy c.in-Let.ty) c.args.walk.now c.leave.new.walk c.finish_let.new.walk c.in-Let.is c.in-Some.ensures.left h (λ types index strings H b g h fs go. refl)) c.finish_let.ensures

pub returns-else-part-bound : goal.returns-else-part-bound
returns-else-part-bound c =
    if-ok _ _ c.begin_bodies.result
    (λ u h. close-heads c.args.limit (get nat_eq c.args.known.now) c.in-Some.part c.in-Heads.functions c.in-Heads.field-1 c.args.walk.now c.leave.new.walk c.begin_bodies.new.walk c.in-Heads.is (let q = c.if-part-bound.false in let r = c.len-bound.ensures in omega (arith, q, r)) c.in-Some.ensures.left (h (get nat_eq c.args.known.now))) c.begin_bodies.ensures
