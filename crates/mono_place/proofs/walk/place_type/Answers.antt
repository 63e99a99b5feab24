use Rattle.std.proofs.Common.{◌≡◌, ◌<◌, ◌++◌, ◌∷◌, [], length, nat_eq, sym, ap, ◌∙◌, subst, arith}
use Rattle.indexmap.specs.IndexMap.{get}
use Rattle.monomorphise.specs.Simple.{nth_part}
use Rattle.mono_place.specs.Placing.{Going, burden}
use Rattle.mono_place.specs.declared.step.Step.TheVariants.{Visit}
use Rattle.mono_place.proofs.Placed.{node-same}
use Rattle.mono_place.proofs.Going.{going-begins, going-builds, going-ends}
use Rattle.mono_place.proofs.walk.place_type.Goals as goal

pub loop-step-init : goal.loop-step-init
loop-step-init c = going-begins c.args.sources.now (nth_part c.args.slots.now) (get nat_eq c.args.known.now) c.args.types.now _ c.args.k c.requires (c.in_ok-push.ensures.items ∙ ap (λ l. l ++ Visit c.args.k ∷ []) c.new-steps.ensures.items)

pub loop-step-smaller-in-Continue-branch-2 : goal.loop-step-smaller-in-Continue-branch-2
loop-step-smaller-in-Continue-branch-2 c = subst (λ l. burden c.args.sources.now c.visit.new.steps.items < burden c.args.sources.now l) (sym (c.in-Some.ensures.items ∙ ap (λ x. c.pop.new.self.items ++ x ∷ []) c.in-Visit.is)) (let e = c.in-Some.ensures.items ∙ ap (λ x. c.pop.new.self.items ++ x ∷ []) c.in-Visit.is in
    c.in_ok-visit-in-Visit.ensures c.args.types.now c.loop-step.types c.args.k (subst (λ l. Going c.args.sources.now (nth_part c.args.slots.now) (get nat_eq c.loop-step.known) c.args.types.now c.loop-step.types l c.args.k) e c.loop-step.invariant)).lighter

pub loop-step-preserved-in-Continue-branch-2 : goal.loop-step-preserved-in-Continue-branch-2
loop-step-preserved-in-Continue-branch-2 c = (let e = c.in-Some.ensures.items ∙ ap (λ x. c.pop.new.self.items ++ x ∷ []) c.in-Visit.is in
    c.in_ok-visit-in-Visit.ensures c.args.types.now c.loop-step.types c.args.k (subst (λ l. Going c.args.sources.now (nth_part c.args.slots.now) (get nat_eq c.loop-step.known) c.args.types.now c.loop-step.types l c.args.k) e c.loop-step.invariant)).going

pub loop-step-smaller : goal.loop-step-smaller
loop-step-smaller c = (going-builds node-same c.args.sources.now (nth_part c.args.slots.now) (get nat_eq c.loop-step.known) (get nat_eq c.insert.new.self) c.args.types.now c.loop-step.types c.build.new.types c.pop.new.self.items c.loop-step.steps.items c.in-Build.of c.in_ok-n-in-Build.n c.args.k (c.in-Some.ensures.items ∙ ap (λ x. c.pop.new.self.items ++ x ∷ []) c.in-Build.is) c.in_ok-n-in-Build.ensures c.in_ok-insert-in-Build.ensures.updates.0 c.loop-step.invariant).lighter

pub loop-step-preserved : goal.loop-step-preserved
loop-step-preserved c = (going-builds node-same c.args.sources.now (nth_part c.args.slots.now) (get nat_eq c.loop-step.known) (get nat_eq c.insert.new.self) c.args.types.now c.loop-step.types c.build.new.types c.pop.new.self.items c.loop-step.steps.items c.in-Build.of c.in_ok-n-in-Build.n c.args.k (c.in-Some.ensures.items ∙ ap (λ x. c.pop.new.self.items ++ x ∷ []) c.in-Build.is) c.in_ok-n-in-Build.ensures c.in_ok-insert-in-Build.ensures.updates.0 c.loop-step.invariant).going

pub returns-clause-is : goal.returns-clause-is
returns-clause-is c =
    let e : length c.loop-step.steps.items ≡ 0 = omega (arith, c.loop-step.steps.ok.0, c.in_default.ensures.cases.0) in
    going-ends node-same c.args.sources.now (nth_part c.args.slots.now) (get nat_eq c.loop-step.known) c.args.types.now c.loop-step.types c.loop-step.steps.items c.args.k c.number_of.result e c.number_of.ensures c.loop-step.invariant

pub returns-clause-right : goal.returns-clause-right
returns-clause-right c = c.loop-step.invariant.right
